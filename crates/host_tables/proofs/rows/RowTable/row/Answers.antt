use Rattle.std.proofs.Common.{sym, ◌∙◌, ap}
use Rattle.std.specs.Prelude.{option_map}
use Rattle.keyframe_effect.specs.declared.model.ModelRow.{ModelRow}
use Rattle.host_tables.proofs.RowLemmas.{own-id}
use Rattle.host_tables.proofs.rows.RowTable.row.Goals as goal

pub returns-in-Some-clause-own : goal.returns-in-Some-clause-own
returns-in-Some-clause-own c =
    own-id c.copied.result c.args.id
    (ap (option_map (λ (r : ModelRow). r.model)) (c.copied.ensures ∙ c.get-in-Some.ensures)
    ∙ c.self.invariant.0 c.args.id c.in-Some.key.now (sym c.in-Some.ensures.value))

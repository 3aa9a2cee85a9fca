use Rattle.std.proofs.Common.{arith, ◌≡◌, Some, nat_eq, ap, ◌∙◌, sym}
use Rattle.std.specs.Prelude.{option_map}
use Rattle.slab.specs.Slab.{slab_len}
use Rattle.keyframe_effect.specs.declared.model.ModelRow.{ModelRow}
use Rattle.std.specs.Map.{lookup}
use Rattle.host_tables.specs.Rows.{Rows, row_at}
use Rattle.host_tables.proofs.RowLemmas.{room-remove, lead-remove, others-remove}
use Rattle.host_tables.proofs.rows.RowTable.remove.Goals as goal

pub invariant_of-self : goal.invariant_of-self
invariant_of-self c =
    let found : lookup (nat_eq c.args.id) c.self.inside.keys.entries ≡ Some c.in-Some.key = sym c.remove.ensures.value ∙ c.in-Some.is in (
      lead-remove c.self.inside.rows.slots c.try_remove.new.self.slots c.self.inside.keys.entries c.remove.new.self.entries c.in-Some.key c.args.id
          c.self.invariant.0 found c.try_remove.ensures.updates.others c.remove.ensures.updates.0,
      room-remove c.try_remove.result (slab_len c.self.inside.rows) (slab_len c.try_remove.new.self) c.try_remove.new.self.capacity c.self.inside.room c.args.id
          (ap (option_map (λ (r : ModelRow). r.model)) c.try_remove.ensures.value ∙ c.self.invariant.0 c.args.id c.in-Some.key found)
          c.try_remove.ensures.len (let had = c.self.invariant.1 in let cap = c.try_remove.ensures.capacity in omega arith),
      (let spare = c.remove.ensures.spare in let had = c.self.invariant.2 in omega arith),
    )

pub returns-in-Some-clause-others : goal.returns-in-Some-clause-others
returns-in-Some-clause-others c =
    let found : lookup (nat_eq c.args.id) c.self.inside.keys.entries ≡ Some c.in-Some.key = sym c.remove.ensures.value ∙ c.in-Some.is in
    λ other differ.
    others-remove c.self.inside.rows.slots c.try_remove.new.self.slots c.self.inside.keys.entries c.remove.new.self.entries c.in-Some.key c.args.id
    c.self.invariant.0 found c.try_remove.ensures.updates.others c.remove.ensures.updates.0 other differ
    ∙ ap (λ (r : Rows). row_at r other) c.self.view_is

use Rattle.std.proofs.Common.{ap, sym, ◌∙◌, nat_eq}
use Rattle.std.specs.Prelude.{option_and_then, option_map}
use Rattle.std.specs.Map.{lookup}
use Rattle.keyframe_effect.specs.declared.model.ModelRow.{ModelRow}
use Rattle.host_tables.specs.Rows.{Rows, row_at, slot_at}
use Rattle.host_tables.proofs.rows.RowTable.reserve.Goals as goal

pub invariant_of-self-2 : goal.invariant_of-self-2
invariant_of-self-2 c = (
  λ id key found.
      ap (λ s. option_map (λ (row : ModelRow). row.model) (slot_at s.slots key)) c.reserve.ensures.rest_kept
      ∙ c.self.invariant.0 id key (sym (c.reserve-2.ensures.entries.2 id) ∙ found),
  c.in_ok-reserve.ensures.room,
  c.in_ok-reserve-2.ensures.ok,
)

pub returns-clause-rows : goal.returns-clause-rows
returns-clause-rows c = λ id.
    ap (λ s. option_and_then (slot_at s.slots) (lookup (nat_eq id) c.reserve-2.new.self.entries)) c.reserve.ensures.rest_kept
    ∙ ap (option_and_then (slot_at c.self.inside.rows.slots)) (c.reserve-2.ensures.entries.2 id)
    ∙ ap (λ (r : Rows). row_at r id) c.self.view_is

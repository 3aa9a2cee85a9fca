use Rattle.std.proofs.Common.{arith, ◌≡◌, ◌≢◌, ℕ, Option, Some, None, List, nat_eq, slice_set, ap, ◌∙◌, sym}
use Rattle.std.specs.Map.{lookup}
use Rattle.std.proofs.lemmas.List.{get_or-set_other}
use Rattle.keyframe_effect.specs.declared.model.ModelRow.{ModelRow}
use Rattle.host_tables.specs.Rows.{Rows, row_at, slot_at}
use Rattle.host_tables.proofs.RowLemmas.{count-set, lead-set, others-set, set-here}
use Rattle.host_tables.proofs.rows.RowTable.set.Goals as goal

others : (slots : List (Option ModelRow)) (key : ℕ) (row : ModelRow) (other : ℕ) → other ≢ key
    → slot_at (slice_set slots key (Some row)) other ≡ slot_at slots other
others slots key row other differ = get_or-set_other slots key other (Some row) None differ

pub invariant_of-self : goal.invariant_of-self
invariant_of-self c =
    let slots = c.self.inside.rows.slots in
    let key = c.in-Some.key.now in
    let found : lookup (nat_eq c.args.row.model) c.self.inside.keys.entries ≡ Some key = sym c.in-Some.ensures.value in
    let lead = c.self.invariant.0 in (
      lead-set slots (slice_set slots key (Some c.args.row)) c.self.inside.keys.entries key c.args.row lead found
          (set-here slots key c.args.row c.args.row.model (lead c.args.row.model key found)) (others slots key c.args.row),
      (let same = count-set slots key c.args.row c.args.row.model (lead c.args.row.model key found) in let had = c.self.invariant.1 in omega arith),
      c.self.invariant.2,
    )

pub returns-in-Some-get_mut-clause-others : goal.returns-in-Some-get_mut-clause-others
returns-in-Some-get_mut-clause-others c =
    let slots = c.self.inside.rows.slots in
    let key = c.in-Some.key.now in
    let found : lookup (nat_eq c.args.row.model) c.self.inside.keys.entries ≡ Some key = sym c.in-Some.ensures.value in
    λ id differ.
    others-set slots (slice_set slots key (Some c.args.row)) c.self.inside.keys.entries key c.args.row.model c.self.invariant.0 found
    (others slots key c.args.row) id differ
    ∙ ap (λ (r : Rows). row_at r id) c.self.view_is

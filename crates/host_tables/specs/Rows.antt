-- The rows that the host keeps of models.
use Rattle.std.specs.Prelude.{◌≡◌, ℕ, Bool, nat_eq, List, Option, Some, None, option_and_then, option_map, slice_index_or, count_by, is_some, true, false, if◌then◌else◌}
use Rattle.std.specs.Map.{lookup}
use Rattle.keyframe_effect.specs.declared.model.ModelRow.{ModelRow}
use Rattle.keyframe_effect.specs.declared.state.RunState.{RunState}
use Rattle.keyframe_effect.specs.declared.state.RunState.TheVariants as state
use Rattle.keyframe_effect.specs.States.{after_done}
use Rattle.host_tables.specs.States.{advanced, as_marked, is_found_over}
use Rattle.run_rules.specs.declared.mark.ModelMark.{ModelMark}

-- A slab of rows; under the id of each model the key of its row; and for how many more rows there is room.
pub record Rows : Type 0 where
  pub slots : List (Option ModelRow)
  pub keys : List (ℕ × ℕ)
  pub room : ℕ

-- the row at a key
abbrev pub slot_at : List (Option ModelRow) → ℕ → Option ModelRow
slot_at slots key = slice_index_or slots key None

-- the row of a model
abbrev pub row_at : Rows → ℕ → Option ModelRow
row_at rows id = option_and_then (slot_at rows.slots) (lookup (nat_eq id) rows.keys)

-- how far a model has come by its row; one that has none waits
abbrev pub state_in : Option ModelRow → RunState
state_in None = state.Waiting
state_in (Some row) = row.state

-- how many rows there are
abbrev pub row_count : Rows → ℕ
row_count rows = count_by is_some rows.slots

-- the key of each id is that of the row of the model with that id
abbrev pub KeysLead : List (Option ModelRow) → List (ℕ × ℕ) → Type 0
KeysLead slots keys =
    (id key : ℕ) → lookup (nat_eq id) keys ≡ Some key → option_map (λ row. row.model) (slot_at slots key) ≡ Some id

-- ---- what no mark says

-- the row as the marks know it
abbrev pub marked_row : ModelRow → ModelRow
marked_row row = record row { state = as_marked row.state }

-- the row of a model, as the marks know it
abbrev pub marked_at : Rows → ℕ → Option ModelRow
marked_at rows id = option_map marked_row (row_at rows id)

-- there is a row, and the iterations of its model were found over
abbrev pub says_over : Option ModelRow → Bool
says_over None = false
says_over (Some row) = is_found_over row.state

-- the row of a model whose iterations are found over
abbrev pub done_row : ModelRow → ModelRow
done_row row = record row { state = after_done row.state }

-- ---- what becomes of a row as the commits change

-- the row of a model of which this became in the mark of this index
abbrev pub advanced_row : ModelMark → ℕ → ModelRow → ModelRow
advanced_row what order row = record row { state = advanced row.state what order }

-- the row of a model that is in the pending commit from now on; one that had none waits
abbrev pub joined : ℕ → Option ModelRow → ModelRow
joined id None = record { model = id; state = state.Waiting; in_active = false; in_pending = true }
joined id (Some row) = record row { in_pending = true }

-- the row of a model that is in the active commit no more: none where it is not in the pending one either
abbrev pub left : ModelRow → Option ModelRow
left row = if row.in_pending then Some (record row { in_active = false }) else None

-- the row of a model that is in the active commit, and not in the pending one
abbrev pub entered : ModelRow → ModelRow
entered row = record row { in_active = true; in_pending = false }

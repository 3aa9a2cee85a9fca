-- What becomes of a group's row: as the first model of the group is found, as one more is, and as one of them goes from
-- one state to another.
use Rattle.std.specs.Prelude.{ℕ, ◌+◌, ◌-◌, ◌≤◌, Bool, true, false, if◌then◌else◌}
use Rattle.anim_names.specs.Properties.{every, put}
use Rattle.keyframe_model.specs.Models.{Spec, property_of}
use Rattle.keyframe_effect.specs.declared.group.GroupRow.{GroupRow}
use Rattle.keyframe_effect.specs.declared.state.RunState.{RunState}
use Rattle.keyframe_effect.specs.States.{is_unfinished, is_waiting}

-- how many that is
abbrev pub one_if : Bool → ℕ
one_if test = if test then 1 else 0

-- the row of a group of which this model is the only one, in this state
abbrev pub first_row : Spec → RunState → GroupRow
first_row model state = record {
  group = model.group;
  element = model.element;
  waiting = one_if (is_waiting state);
  unfinished = one_if (is_unfinished state);
  animates = put (every false) (property_of model) true;
}

-- the row with one more model, in this state
abbrev pub row_with : Spec → RunState → GroupRow → GroupRow
row_with model state row = record row {
  waiting = row.waiting + one_if (is_waiting state);
  unfinished = row.unfinished + one_if (is_unfinished state);
  animates = put row.animates (property_of model) true;
}

-- a count of models that are so, as one of them was so or not and is so or not
abbrev pub moved_count : Bool → Bool → ℕ → ℕ
moved_count was is count = (count + one_if is) - one_if was

-- the row as a model of the group goes from one state to another
abbrev pub moved : RunState → RunState → GroupRow → GroupRow
moved before after row = record row {
  waiting = moved_count (is_waiting before) (is_waiting after) row.waiting;
  unfinished = moved_count (is_unfinished before) (is_unfinished after) row.unfinished;
}

-- The row counts the model in the state that it had, and counts up to the most do for the state that it has.
pub record CanMove (most : ℕ) (before after : RunState) (row : GroupRow) : Type 0 where
  pub waited : one_if (is_waiting before) ≤ row.waiting
  pub ran : one_if (is_unfinished before) ≤ row.unfinished
  pub waiting : row.waiting + one_if (is_waiting after) ≤ most + one_if (is_waiting before)
  pub unfinished : row.unfinished + one_if (is_unfinished after) ≤ most + one_if (is_unfinished before)

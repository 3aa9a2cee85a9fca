-- The rows that the host keeps of the groups of the active commit, and what each says.
use Rattle.std.specs.Prelude.{ℕ, nat_eq, ◌==◌, Bool, not, ◌&&◌, List, [], ◌∷◌, filter, count_by, Option, Some, None}
use Rattle.std.specs.Map.{lookup}
use Rattle.anim_names.specs.Properties.{for_each}
use Rattle.keyframe_model.specs.Models.{Spec}
use Rattle.keyframe_effect.specs.declared.group.GroupRow.{GroupRow}
use Rattle.keyframe_effect.specs.declared.state.RunState.{RunState}
use Rattle.keyframe_effect.specs.Groups.{first_row, row_with}
use Rattle.keyframe_effect.specs.Rule.{animates}
use Rattle.run_rules.specs.declared.mark.Mark.{Mark}
use Rattle.run_rules.specs.Marks.{is_ended, is_unfinished, is_started}

-- Under the id of each group its row; and for how many more rows there is room.
pub record Groups : Type 0 where
  pub entries : List (ℕ × GroupRow)
  pub room : ℕ

-- the row of a group
abbrev pub group_at : Groups → ℕ → Option GroupRow
group_at groups id = lookup (nat_eq id) groups.entries

-- the row of a group with one more model in this state, which may be its first
abbrev pub joined_row : Spec → RunState → Option GroupRow → GroupRow
joined_row model state None = first_row model state
joined_row model state (Some row) = row_with model state row

-- ---- what a row says

-- the model has neither started nor ended
abbrev pub is_waiting : List Mark → ℕ → Bool
is_waiting marks id = not (is_started marks id) && not (is_ended marks id)

-- The row of a group that has these models, none where there are none: how many of them wait and how many run, and of
-- which properties they are. All are of the element of the first.
abbrev pub row_of_members : List Mark → ℕ → List Spec → Option GroupRow
row_of_members marks group [] = None
row_of_members marks group (first ∷ mates) = Some (record {
  group = group;
  element = first.element;
  waiting = count_by (λ model. is_waiting marks model.id) (first ∷ mates);
  unfinished = count_by (λ model. is_unfinished marks model.id) (first ∷ mates);
  animates = for_each (λ property. animates property (first ∷ mates));
})

-- the row of a group, where these models are in the active commit
unfoldable pub group_row_of : List Spec → List Mark → ℕ → Option GroupRow
group_row_of models marks group = row_of_members marks group (filter (λ model. group == model.group) models)

-- What the steps of a tick ask of the models and the marks.
use Rattle.std.specs.Prelude.{ℕ, ◌+◌, Bool, ◌&&◌, List, [], ◌∷◌, length}
use Rattle.std.specs.List.{list_any}
use Rattle.keyframe_model.specs.Models.{Spec}
use Rattle.run_rules.specs.declared.mark.Mark.{Mark}
use Rattle.run_rules.specs.Marks.{are_over, is_unfinished}
use Rattle.tree_commit.specs.Trees.{TreeLists, members_of}

-- the model finishes at the tick
abbrev pub finishes : TreeLists → List Mark → ℕ → Spec → Bool
finishes active marks tick model = is_unfinished marks model.id && are_over active marks tick model.group

-- models of the group run, and each of them is done
abbrev pub group_finishes : TreeLists → List Mark → ℕ → ℕ → Bool
group_finishes active marks tick group =
    list_any (λ model. is_unfinished marks model.id) (members_of active group) && are_over active marks tick group

-- for how many starts of these groups there must be room
abbrev pub start_room : TreeLists → List ℕ → ℕ
start_room tree [] = 0
start_room tree (group ∷ groups) = length (members_of tree group) + start_room tree groups

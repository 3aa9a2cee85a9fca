-- The groups of a commit with the indices of their models.
use Rattle.std.specs.Prelude.{ℕ, ◌+◌, ◌==◌, nat_eq, if◌then◌else◌, List, [], ◌∷◌, ◌++◌, filter_map, slice_get, unwrap_or, Vec}
use Rattle.std.specs.Map.{lookup}
use Rattle.std.specs.declared.alloc.Global.{Global}
use Rattle.keyframe_model.specs.Models.{Spec}

-- a group under its id
abbrev pub group_entry : ℕ × Vec ℕ Global → ℕ × List ℕ
group_entry entry = (entry.0, entry.1.items)

-- the groups with a model at this index, in its group; a group that was not there goes last
abbrev pub with_index : ℕ → ℕ → List (ℕ × List ℕ) → List (ℕ × List ℕ)
with_index index group [] = (group, index ∷ []) ∷ []
with_index index group (entry ∷ entries) =
    if group == entry.0 then (entry.0, entry.1 ++ index ∷ []) ∷ entries else entry ∷ with_index index group entries

-- the groups with these models, of which the first has this index
abbrev pub commit_groups_from : ℕ → List (ℕ × List ℕ) → List Spec → List (ℕ × List ℕ)
commit_groups_from index grouped [] = grouped
commit_groups_from index grouped (model ∷ models) = commit_groups_from (index + 1) (with_index index model.group grouped) models

-- the groups of these models, in the order of their first models, each with the indices of its models
abbrev pub commit_groups : List Spec → List (ℕ × List ℕ)
commit_groups models = commit_groups_from 0 [] models

-- the indices of a group's models
abbrev pub indices_in : List (ℕ × List ℕ) → ℕ → List ℕ
indices_in grouped group = unwrap_or (lookup (nat_eq group) grouped) []

-- the models at these indices
abbrev pub at_indices : List Spec → List ℕ → List Spec
at_indices models indices = filter_map (slice_get models) indices

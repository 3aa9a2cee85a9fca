-- The samples that are kept of models whose iterations are over.
use Rattle.std.specs.Prelude.{◌≡◌, ℕ, ◌≤◌, nat_eq, Bool, ◌&&◌, IsTrue, List, Option, IfSome}
use Rattle.std.specs.Map.{lookup}
use Rattle.std.specs.Ordering.{int_eq}
use Rattle.keyframe_model.specs.Models.{Spec, PropertyValue, model_value}
use Rattle.anim_names.specs.Lists.{IsAmong}
use Rattle.tree_commit.specs.declared.shown.Shown.{Shown}
use Rattle.tree_commit.specs.Trees.{TreeLists, has_model, local_time}

-- the same is shown
abbrev pub is_shown : Shown → Shown → Bool
is_shown one other = int_eq one.start other.start && nat_eq one.order other.order

-- What was shown of the model as the sample was taken, from which tick on it is right, and the value that the model gives,
-- where it gives one.
pub record KeptSample : Type 0 where
  pub shown : Shown
  pub since : ℕ
  pub value : Option PropertyValue

-- From its tick on the model gives the kept value, while the same is shown of it.
abbrev pub IsRightOf : TreeLists → Spec → KeptSample → Type 0
IsRightOf tree model kept =
    (tick : ℕ) → kept.since ≤ tick → model_value model (local_time tree tick model kept.shown) ≡ kept.value

-- The sample is of the model of this id, which is in the tree.
abbrev pub IsKeptOf : TreeLists → ℕ → KeptSample → Type 0
IsKeptOf tree id kept =
    IsTrue (has_model tree id) × ((model : Spec) → IsAmong model tree.models → id ≡ model.id → IsRightOf tree model kept)

-- So is each kept sample, of the model under whose id it is.
abbrev pub AreKeptOf : TreeLists → List (ℕ × KeptSample) → Type 0
AreKeptOf tree kept = (id : ℕ) → IfSome (lookup (nat_eq id) kept) (IsKeptOf tree id)

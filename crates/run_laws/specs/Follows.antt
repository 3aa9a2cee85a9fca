-- The commit that is pulled while another is active goes on from that one, and the script adds all models of both.
use Rattle.std.specs.Prelude.{◌⊎◌, ℕ, ◌≤◌, IsTrue, List, length, IfSome, IsSomeAnd}
use Rattle.anim_names.specs.declared.limit.TheConstants.{MOST_MODELS}
use Rattle.tree_commit.specs.Trees.{has_model}
use Rattle.tree_commit.specs.Edits.{is_in}
use Rattle.run_rules.specs.Scripts.{ScriptLists, book_of}
use Rattle.run_rules.specs.Runs.{Lanes}
use Rattle.anim_names.specs.Lists.{AreDistinct, IsAmong}
use Rattle.run_rules.specs.Follows.{Follows, has_mark}

-- ---- the pending commit

-- The commit that is pending follows the active one, from the pull that took it on.
abbrev pub PendingFollows : Lanes → Type 0
PendingFollows lanes =
    IfSome lanes.compositor.pending (λ pending. Follows lanes.compositor.active.tree pending.tree lanes.compositor.marks)

-- ---- how many models there are

-- the compositor knows the model: it has a mark, or is in the active or in the pending commit
abbrev pub IsKnownAt : Lanes → ℕ → Type 0
IsKnownAt lanes id =
    IsTrue (has_mark lanes.compositor.marks id)
    ⊎ (IsTrue (has_model lanes.compositor.active.tree id)
    ⊎ IsSomeAnd lanes.compositor.pending (λ pending. IsTrue (has_model pending.tree id)))

-- Each model that the compositor knows is one that the script adds, so they are together at most those, and these are at
-- most as many as may be added.
pub record KnownWereAdded (script : ScriptLists) (lanes : Lanes) : Type 0 where
  pub added : (id : ℕ) → IsKnownAt lanes id → IsTrue (is_in id (book_of script.main).models)
  pub at_most :
      (ids : List ℕ) → AreDistinct ids → ((id : ℕ) → IsAmong id ids → IsKnownAt lanes id)
      → length ids ≤ length (book_of script.main).models
  pub limit : length (book_of script.main).models ≤ MOST_MODELS

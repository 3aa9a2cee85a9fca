-- What the tables of a host stand for: the active commit, the pending one or none, and the marks.
use Rattle.std.specs.Prelude.{◌≡◌, ℕ, ◌+◌, ◌≤◌, Bool, true, false, List, length, Option, Some, None, IfSome, option_map}
use Rattle.host_tables.specs.CommitGroups.{commit_groups}
use Rattle.run_rules.specs.declared.mark.Mark.{Mark}
use Rattle.element_anims.specs.Elements.{Anims}
use Rattle.keyframe_model.specs.Models.{Spec}
use Rattle.run_rules.specs.Follows.{Follows}
use Rattle.anim_names.specs.Lists.{IsAmong}
use Rattle.run_rules.specs.Marks.{is_over, start_of}
use Rattle.tree_commit.specs.Trees.{Committed, TreeLists, has_group}
use Rattle.host_tables.specs.Elements.{PresenceStands}
use Rattle.anim_host.specs.Fits.{AreSettled, MarksFitModels}
use Rattle.host_tables.specs.Blocks.{BlocksStand}
use Rattle.host_tables.specs.MarkLists.{Marked, with_marks}
use Rattle.host_tables.specs.Groups.{Groups, group_at, group_row_of}
use Rattle.host_tables.specs.Rows.{Rows, marked_at, row_at, says_over}
use Rattle.host_tables.specs.States.{FinishesStarted, models_of, row_for}

-- the model of this id, where the tree has it, is done at the tick
abbrev pub IsOver : TreeLists → List Mark → ℕ → ℕ → Type 0
IsOver tree marks tick id =
    (model : Spec) → IsAmong model tree.models → model.id ≡ id → is_over tree tick model (start_of marks id) ≡ true

-- The tables stand for these commits, these marks and this last tick. Each model of either commit has its row, which says
-- in which of them it is and what the marks say of it, and there are no other rows. A model that its row calls done is
-- done at the last tick. Each group of the active commit has its row, and there is room for those of the pending one. The
-- table of elements says which elements are in which commit, and which group blocks each property. The marks go with the
-- active commit, and the pending one follows.
pub record StandsFor (rows : Rows) (groups : Groups) (table : Anims) (active : Committed) (pending : Option Committed) (marks : List Mark) (tick : ℕ) : Type 0 where
  pub of_rows : (id : ℕ) → marked_at rows id ≡ row_for active.tree.models (models_of pending) marks id
  pub over : (id : ℕ) → says_over (row_at rows id) ≡ true → IsOver active.tree marks tick id
  pub of_groups : (group : ℕ) → group_at groups group ≡ group_row_of active.tree.models marks group
  pub roomy : IfSome pending (λ commit. length commit.tree.models ≤ groups.room)
  pub of_elements : PresenceStands table active pending
  pub of_blocks : BlocksStand table marks
  pub finishes : FinishesStarted marks
  pub fits : MarksFitModels active.tree.models marks
  pub follows : IfSome pending (λ commit. Follows active.tree commit.tree marks)

-- a pending commit has a model of the group
abbrev pub pending_has_group : Option Committed → ℕ → Bool
pending_has_group None group = false
pending_has_group (Some commit) group = has_group commit.tree group

-- the active commit, the pending one or none, the list of marks, and the time of the last tick
pub record Stood : Type 0 where
  pub active : Committed
  pub pending : Option Committed
  pub list : Marked
  pub last_tick : ℕ

-- with new marks behind the others
abbrev pub with_new : Stood → List Mark → Stood
with_new stood new = record stood { list = with_marks stood.list new }

-- The groups of each commit with the indices of their models are those of the commits. Where a commit is pending, there is
-- room for a mark for each model of the active one. The marks are those of whole steps.
pub record GroupsGoWithCommits (stood : Stood) (grouped : List (ℕ × List ℕ)) (next : Option (List (ℕ × List ℕ))) : Type 0 where
  pub of_active : grouped ≡ commit_groups stood.active.tree.models
  pub of_pending : next ≡ option_map (λ commit. commit_groups commit.tree.models) stood.pending
  pub settled : AreSettled stood.active.tree.models stood.list.marks
  pub roomy : IfSome stood.pending (λ commit. length stood.list.marks + length stood.active.tree.models ≤ stood.list.room)

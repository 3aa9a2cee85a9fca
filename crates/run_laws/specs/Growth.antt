-- What only grows along a run, so that what a lane has learnt stays true.
use Rattle.std.specs.Prelude.{◌≡◌, ℕ, ◌+◌, Bool, true, false, List, [], ◌∷◌, length, map, take, count_by, IfSome}
use Rattle.anim_names.specs.declared.lane.Lane.{Lane}
use Rattle.anim_names.specs.declared.lane.Lane.TheVariants.{Main}
use Rattle.anim_names.specs.Lanes.{letters_of}
use Rattle.anim_names.specs.Lists.{BeginsWith, IsAmong}
use Rattle.tree_commit.specs.Trees.{Committed, empty_commit}
use Rattle.run_rules.specs.Marks.{event_of}
use Rattle.run_rules.specs.Scripts.{StepOfMain, EditStep, CommitStep, DrainStep, ScriptLists}
use Rattle.run_rules.specs.Runs.{Lanes, beginning, after}

-- ---- marks and commits

-- Whatever word comes next, the marks stay, and new ones come behind them.
abbrev pub MarksOnlyGrow : Lanes → List Lane → Type 0
MarksOnlyGrow lanes word = BeginsWith (after lanes word).compositor.marks lanes.compositor.marks

-- Whatever word comes next, the commits stay, and new ones come behind them.
abbrev pub CommitsOnlyGrow : Lanes → List Lane → Type 0
CommitsOnlyGrow lanes word = BeginsWith (after lanes word).main.commits lanes.main.commits

-- ---- how many commits there are

abbrev pub is_commit : StepOfMain → Bool
is_commit (EditStep change) = false
is_commit CommitStep = true
is_commit DrainStep = false

-- the first has this number, and each further one the next
abbrev pub AreNumberedFrom : ℕ → List Committed → Type 0
AreNumberedFrom number [] = Unit {0}
AreNumberedFrom number (commit ∷ commits) = (commit.number ≡ number) × AreNumberedFrom (number + 1) commits

-- The commits are numbered from 1 on, and there are as many as commit steps so far.
pub record CommitsAreCounted (script : ScriptLists) (word : List Lane) : Type 0 where
  pub numbers : AreNumberedFrom 1 (after (beginning script) word).main.commits
  pub count :
      length (after (beginning script) word).main.commits
      ≡ count_by is_commit (take (letters_of Main word) script.main)

-- ---- what a lane has learnt

-- What main has heard, and which commits the compositor has, is so after every longer word too.
pub record LearntStays (lanes later : Lanes) : Type 0 where
  pub heard : BeginsWith (map event_of later.compositor.marks) lanes.main.heard
  pub active : IsAmong lanes.compositor.active (empty_commit ∷ later.main.commits)
  pub pending : IfSome lanes.compositor.pending (λ commit. IsAmong commit later.main.commits)

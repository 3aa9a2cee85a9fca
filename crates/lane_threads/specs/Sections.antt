-- The sections of the lock: what each asks of the lane that makes it, and what it leaves.
use Rattle.std.specs.Prelude.{◌≡◌, ℕ, ◌+◌, ◌-◌, true, Bool, List, [], ◌∷◌, ◌++◌, Option, None, is_some, IsSomeAnd, IsFalse}
use Rattle.anim_names.specs.declared.lane.Lane.TheVariants.{Main, Compositor}
use Rattle.commit_lock.specs.Seats.{SeatState}
use Rattle.frame_exchange.specs.Journals.{Exchange, publish_entry, word_so_far}
use Rattle.frame_exchange.specs.Sides.{CompositorState, MainState, commit_of, compositor_after_pull, main_after_build, main_after_hearing}
use Rattle.run_rules.specs.declared.compositor_step.CompositorStep.{CompositorStep}
use Rattle.run_rules.specs.declared.compositor_step.CompositorStep.TheVariants.{Pull}
use Rattle.run_rules.specs.Frames.{DrawnFrame}
use Rattle.run_rules.specs.Scripts.{CommitStep, DrainStep, ScriptLists, is_quiet}
use Rattle.tree_commit.specs.Trees.{Committed}
use Rattle.word_machine.specs.Turns.{MayPlace, compositor_with_reply, counts_with, frames_with}
use Rattle.lane_threads.specs.Keeping.{ScriptBoard}
use Rattle.lane_threads.specs.Knowing.{IsCompositorAhead, IsMainAhead, IsNextOfCompositor, IsNextOfMain, IsSeatOf, KnowsCompositor, KnowsMain, marked}

-- ---- main

-- the board once the commit that main has built is published
abbrev pub board_published : MainState → Exchange → Exchange
board_published main board = record board {
  entries = board.entries ++ publish_entry board.entries (main.steps + 1) ∷ [];
  mailbox = main.built;
  room = board.room - 1;
}

-- Main may publish: it stood ahead of the journal where a commit is its next step, and has built that commit.
pub record MayPublish (shared : ScriptBoard) (main : MainState) (commit : Committed) : Type 0 where
  pub before : MainState
  pub counts : List ℕ
  pub silent : ℕ
  pub ahead : IsMainAhead shared.script (word_so_far shared.board.entries) silent before counts
  pub next : IsNextOfMain shared.script before.steps CommitStep
  pub built : main ≡ main_after_build before
  pub given : commit ≡ commit_of before

-- Main may drain: it is ahead of the journal where a drain is its next step.
pub record MayDrain (shared : ScriptBoard) (main : MainState) : Type 0 where
  pub counts : List ℕ
  pub silent : ℕ
  pub ahead : IsMainAhead shared.script (word_so_far shared.board.entries) silent main counts
  pub next : IsNextOfMain shared.script main.steps DrainStep

-- Main has built the commit of its next step.
pub record HasBuilt (script : ScriptLists) (seat : SeatState) (main : MainState) (commit : Committed) (counts : List ℕ) : Type 0 where
  pub before : MainState
  pub knows : KnowsMain script seat before counts
  pub next : IsNextOfMain script before.steps CommitStep
  pub built : main ≡ main_after_build before
  pub given : commit ≡ commit_of before

-- Main has drained the board, and has not heard what it drained.
pub record HasDrained (script : ScriptLists) (seat : SeatState) (main : MainState) (counts : List ℕ) : Type 0 where
  pub seat_is : IsSeatOf script Main seat
  pub heard : (later : MainState) (more : List ℕ) → later ≡ main_after_hearing main → more ≡ counts_with DrainStep later counts → KnowsMain script seat later more

-- ---- the compositor

-- The compositor may pull: it is ahead of the journal where a pull is its next step.
pub record MayPull (shared : ScriptBoard) (compositor : CompositorState) : Type 0 where
  pub frames : List DrawnFrame
  pub silent : ℕ
  pub ahead : IsCompositorAhead shared.script (word_so_far shared.board.entries) silent compositor frames
  pub next : IsNextOfCompositor shared.script compositor.steps Pull

-- The step may make marks.
abbrev pub MayMark : CompositorStep → Type 0
MayMark step = IsFalse (is_quiet step)

-- The compositor may send: it stood ahead of the journal where this step is its next one, and has made its marks.
pub record MaySendMarks (shared : ScriptBoard) (compositor : CompositorState) : Type 0 where
  pub before : CompositorState
  pub frames : List DrawnFrame
  pub silent : ℕ
  pub step : CompositorStep
  pub ahead : IsCompositorAhead shared.script (word_so_far shared.board.entries) silent before frames
  pub next : IsNextOfCompositor shared.script before.steps step
  pub may_mark : MayMark step
  pub is : compositor ≡ marked step before

-- The compositor has made the marks of its next step, and drawn its frame, if it has one.
pub record HasMarked (script : ScriptLists) (seat : SeatState) (compositor : CompositorState) (frames : List DrawnFrame) : Type 0 where
  pub before : CompositorState
  pub earlier : List DrawnFrame
  pub step : CompositorStep
  pub knows : KnowsCompositor script seat before earlier
  pub next : IsNextOfCompositor script before.steps step
  pub may_mark : MayMark step
  pub is : compositor ≡ marked step before
  pub drawn : frames ≡ frames_with step before earlier

-- The compositor has pulled. A commit that it found may be placed, and with that its step is made; where it found none,
-- it is made already.
pub record HasPulled (script : ScriptLists) (seat : SeatState) (compositor : CompositorState) (found : Bool) (frames : List DrawnFrame) : Type 0 where
  pub before : CompositorState
  pub reply : Option Committed
  pub seat_is : IsSeatOf script Compositor seat
  pub pulled : compositor ≡ compositor_after_pull before reply
  pub found_is : found ≡ is_some reply
  pub free : found ≡ true → before.pending ≡ None
  pub may_place : found ≡ true → IsSomeAnd reply (MayPlace before)
  pub placed : (later : CompositorState) → later ≡ compositor_with_reply reply before → KnowsCompositor script seat later frames

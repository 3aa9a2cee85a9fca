-- One step of a lane on its side and on the board: what it asks, and what it makes of both.
use Rattle.std.specs.Prelude.{◌≡◌, ℕ, ◌+◌, ◌-◌, ◌<◌, ◌≤◌, ◌^◌, IsTrue, IsFalse, List, [], ◌∷◌, ◌++◌, length, Option, Some, None, IsSomeAnd}
use Rattle.anim_names.specs.declared.event.AnimEvent.{AnimEvent}
use Rattle.anim_names.specs.declared.lane.Lane.TheVariants.{Main, Compositor}
use Rattle.anim_names.specs.declared.limit.TheConstants.{MOST_STEPS}
use Rattle.anim_timeline.specs.Timelines.{IsTime}
use Rattle.event_queue.specs.Queues.{unheard, with_all_heard}
use Rattle.frame_exchange.specs.Journals.{Exchange, drain_entry, finds_nothing, last_upto, mailbox_after_pull, publish_entry, published, pull_entry, reply_to_pull, send_entry}
use Rattle.frame_exchange.specs.Sides.{CompositorState, IsCompositorComplete, IsMainComplete, MainState, commit_of, compositor_after_activation, compositor_after_place, compositor_after_pull, compositor_after_send, compositor_after_tick, main_after_build, main_after_drain, main_after_edit, main_after_hearing, main_after_publish, marks_with_tick, news_of, slot_of}
use Rattle.run_rules.specs.declared.compositor_step.CompositorStep.{CompositorStep}
use Rattle.run_rules.specs.declared.compositor_step.CompositorStep.TheVariants.{Pull, Activate, Tick}
use Rattle.run_rules.specs.Follows.{Follows, KnowsAtMost}
use Rattle.run_rules.specs.Frames.{DrawnFrame, LocalTimesFit, frame_at, shown_by}
use Rattle.run_rules.specs.Scripts.{StepOfMain, EditStep, CommitStep, DrainStep, is_allowed, time_of_tick}
use Rattle.tree_commit.specs.Trees.{Committed}

-- ---- main

-- Main may make this step: the step before is complete, the book allows this one, and the board has room for its entry
-- and main's side for what a drain gives.
pub record MayMakeMain (step : StepOfMain) (main : MainState) (board : Exchange) : Type 0 where
  pub complete : IsMainComplete main
  pub allowed : IsTrue (is_allowed main.book step)
  pub steps : main.steps < MOST_STEPS
  pub room : 0 < board.room
  pub later : last_upto Main board.entries ≤ main.steps
  pub next : main.book.commits ≡ published board.entries
  pub batch_room : length (unheard board.queue) ≤ main.room
  pub few : main.heard + length (unheard board.queue) < 2 ^ 32

-- main's side after the step, which is complete then
abbrev pub main_turned : StepOfMain → Exchange → MainState → MainState
main_turned (EditStep change) board main = main_after_edit main change
main_turned CommitStep board main = main_after_publish (main_after_build main)
main_turned DrainStep board main = main_after_hearing (main_after_drain main (unheard board.queue))

-- the board after it
abbrev pub board_after_main : StepOfMain → MainState → Exchange → Exchange
board_after_main (EditStep change) main board = board
board_after_main CommitStep main board = record board {
  entries = board.entries ++ publish_entry board.entries (main.steps + 1) ∷ [];
  mailbox = Some (commit_of main);
  room = board.room - 1;
}
board_after_main DrainStep main board = record board {
  entries = board.entries ++ drain_entry board (main.steps + 1) ∷ [];
  queue = with_all_heard board.queue;
  room = board.room - 1;
}

-- the counts with that of the step: a drain tells how many events main has heard then
abbrev pub counts_with : StepOfMain → MainState → List ℕ → List ℕ
counts_with (EditStep change) main counts = counts
counts_with CommitStep main counts = counts
counts_with DrainStep main counts = counts ++ main.heard ∷ []

-- ---- the compositor

-- A commit that is pulled may be placed: it goes on from the active one, and there is room for its models.
pub record MayPlace (compositor : CompositorState) (commit : Committed) : Type 0 where
  pub follows : Follows compositor.active.tree commit.tree compositor.marks
  pub room : KnowsAtMost compositor.models compositor.active.tree commit.tree compositor.marks

-- A tick of this time may be made: ticks never fall, and each local time is one for which timings are defined.
pub record MayTick (compositor : CompositorState) (time : ℕ) : Type 0 where
  pub later : compositor.last_tick ≤ time
  pub in_time : IsTime time
  pub locals : LocalTimesFit compositor.active.tree (shown_by (marks_with_tick compositor time)) time

-- The board has room for the news of the side.
pub record MaySend (compositor : CompositorState) (board : Exchange) : Type 0 where
  pub event_room : length (news_of compositor) ≤ board.queue.room
  pub few : length board.queue.events + length (news_of compositor) < 2 ^ 32

-- what a step asks beside that
abbrev pub AllowsStep : CompositorStep → CompositorState → Exchange → Type 0
AllowsStep Pull compositor board =
    IsFalse (finds_nothing board.entries (slot_of compositor.pending))
    → IsSomeAnd (reply_to_pull board (slot_of compositor.pending)) (MayPlace compositor)
AllowsStep Activate compositor board = MaySend (compositor_after_activation compositor) board
AllowsStep (Tick time) compositor board =
    MayTick compositor time × MaySend (compositor_after_tick compositor time) board

-- The compositor may make this step: the step before is complete, and the board has room for its entry.
pub record MayMakeCompositor (step : CompositorStep) (compositor : CompositorState) (board : Exchange) : Type 0 where
  pub complete : IsCompositorComplete compositor
  pub steps : compositor.steps < MOST_STEPS
  pub room : 0 < board.room
  pub later : last_upto Compositor board.entries ≤ compositor.steps
  pub allows : AllowsStep step compositor board

-- what a pull made of the side, and the placing of what it gave
abbrev pub compositor_with_reply : Option Committed → CompositorState → CompositorState
compositor_with_reply None compositor = compositor_after_pull compositor None
compositor_with_reply (Some commit) compositor = compositor_after_place (compositor_after_pull compositor (Some commit))

-- the compositor's side after the step, which is complete then
abbrev pub compositor_turned : CompositorStep → Exchange → CompositorState → CompositorState
compositor_turned Pull board compositor =
    compositor_with_reply (reply_to_pull board (slot_of compositor.pending)) compositor
compositor_turned Activate board compositor = compositor_after_send (compositor_after_activation compositor)
compositor_turned (Tick time) board compositor = compositor_after_send (compositor_after_tick compositor time)

-- the board with these events sent in this step; without events nothing is sent
abbrev pub board_with_news : ℕ → List AnimEvent → Exchange → Exchange
board_with_news upto [] board = board
board_with_news upto (event ∷ events) board = record board {
  entries = board.entries ++ send_entry upto (event ∷ events) ∷ [];
  queue = record board.queue {
    events = board.queue.events ++ event ∷ events;
    room = board.queue.room - length (event ∷ events);
  };
  room = board.room - 1;
}

-- the board once the side has told its news
abbrev pub board_told : CompositorState → Exchange → Exchange
board_told compositor board = board_with_news compositor.steps (news_of compositor) board

-- the board after the step
abbrev pub board_after_compositor : CompositorStep → CompositorState → Exchange → Exchange
board_after_compositor Pull compositor board = record board {
  entries = board.entries ++ pull_entry board.entries (compositor.steps + 1) (slot_of compositor.pending) ∷ [];
  mailbox = mailbox_after_pull board (slot_of compositor.pending);
  room = board.room - 1;
}
board_after_compositor Activate compositor board = board_told (compositor_after_activation compositor) board
board_after_compositor (Tick time) compositor board = board_told (compositor_after_tick compositor time) board

-- the frames with that of a tick of this time, which a side in this state draws
abbrev pub frames_with_tick : Option ℕ → CompositorState → List DrawnFrame → List DrawnFrame
frames_with_tick None compositor frames = frames
frames_with_tick (Some time) compositor frames =
    frames ++ frame_at compositor.active (marks_with_tick compositor time) time ∷ []

-- the frames with that of the step, where it is a tick
abbrev pub frames_with : CompositorStep → CompositorState → List DrawnFrame → List DrawnFrame
frames_with step compositor frames = frames_with_tick (time_of_tick step) compositor frames

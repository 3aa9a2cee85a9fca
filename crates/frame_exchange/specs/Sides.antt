-- The two sides between their calls, and what each call makes of its side.
use Rattle.std.specs.Prelude.{◌≡◌, ℕ, ◌+◌, if◌then◌else◌, List, [], ◌∷◌, ◌++◌, length, drop, map, fold, Option, Some, None}
use Rattle.anim_names.specs.declared.event.AnimEvent.{AnimEvent}
use Rattle.frame_exchange.specs.declared.board.PendingSlot.{PendingSlot}
use Rattle.frame_exchange.specs.declared.board.PendingSlot.TheVariants.{Free, Taken}
use Rattle.run_rules.specs.declared.mark.Mark.{Mark}
use Rattle.tree_commit.specs.Trees.{Committed, TreeLists, empty_commit, empty_tree, next_commit}
use Rattle.tree_commit.specs.Edits.{Book, Change, book_after, book_after_commit, new_book, tree_after}
use Rattle.run_rules.specs.Marks.{event_of, marks_of_activation, marks_of_tick}
use Rattle.run_rules.specs.Runs.{retires, tree_after_hearing}

-- ---- main's side

-- Main's tree and the book of its edits; how many events main has heard; the commit that is built and not published; the
-- events that are drained and not heard; how many steps were made; and for how many events a drain has room.
pub record MainState : Type 0 where
  pub tree : TreeLists
  pub book : Book
  pub heard : ℕ
  pub built : Option Committed
  pub batch : List AnimEvent
  pub steps : ℕ
  pub room : ℕ

-- main before its first step
abbrev pub new_main : ℕ → MainState
new_main room = record {
  tree = empty_tree;
  book = new_book;
  heard = 0;
  built = None;
  batch = [];
  steps = 0;
  room = room;
}

-- The step before is complete: what was built is published, and what was drained is heard.
pub record IsMainComplete (main : MainState) : Type 0 where
  pub published : main.built ≡ None
  pub heard : main.batch ≡ []

-- an edit is a step
abbrev pub main_after_edit : MainState → Change → MainState
main_after_edit main change = record main {
  tree = tree_after main.tree change;
  book = book_after main.book change;
  steps = main.steps + 1;
}

-- the commit that a commit step builds
abbrev pub commit_of : MainState → Committed
commit_of main = next_commit main.book.commits main.tree

abbrev pub main_after_build : MainState → MainState
main_after_build main = record main { built = Some (commit_of main); book = book_after_commit main.book }

-- With its publishing a commit step is made.
abbrev pub main_after_publish : MainState → MainState
main_after_publish main = record main { built = None; steps = main.steps + 1 }

-- A drain is a step.
abbrev pub main_after_drain : MainState → List AnimEvent → MainState
main_after_drain main events = record main { batch = events; steps = main.steps + 1 }

-- The closing drain is none.
abbrev pub main_after_closing : MainState → List AnimEvent → MainState
main_after_closing main events = record main { batch = events }

-- Main hears what it has drained, in order.
abbrev pub main_after_hearing : MainState → MainState
main_after_hearing main = record main {
  tree = fold tree_after_hearing main.tree main.batch;
  heard = main.heard + length main.batch;
  batch = [];
}

-- how many models the events retire as they are heard in order
unfoldable pub retired_by : TreeLists → List AnimEvent → ℕ
retired_by tree [] = 0
retired_by tree (event ∷ events) =
    (if retires tree event then 1 else 0) + retired_by (tree_after_hearing tree event) events

-- ---- the compositor's side

-- The active commit; the one that waits for its activation; the one that is pulled and not placed yet; the marks so far
-- and how many of them were sent; the time of the last tick; how many steps were made; and for how many models the side
-- was made.
pub record CompositorState : Type 0 where
  pub active : Committed
  pub pending : Option Committed
  pub pulled : Option Committed
  pub marks : List Mark
  pub sent : ℕ
  pub last_tick : ℕ
  pub steps : ℕ
  pub models : ℕ

-- the compositor before its first step
abbrev pub new_compositor : ℕ → CompositorState
new_compositor models = record {
  active = empty_commit;
  pending = None;
  pulled = None;
  marks = [];
  sent = 0;
  last_tick = 0;
  steps = 0;
  models = models;
}

-- The step before is complete: what was pulled is placed, and all marks are sent.
pub record IsCompositorComplete (compositor : CompositorState) : Type 0 where
  pub placed : compositor.pulled ≡ None
  pub told : compositor.sent ≡ length compositor.marks

-- what a pull is told
abbrev pub slot_of : Option Committed → PendingSlot
slot_of None = Free
slot_of (Some pending) = Taken

-- A pull is a step.
abbrev pub compositor_after_pull : CompositorState → Option Committed → CompositorState
compositor_after_pull compositor commit = record compositor { pulled = commit; steps = compositor.steps + 1 }

-- The commit that was pulled waits for its activation.
abbrev pub compositor_after_place : CompositorState → CompositorState
compositor_after_place compositor = record compositor { pending = compositor.pulled; pulled = None }

abbrev pub activated : CompositorState → Option Committed → CompositorState
activated compositor None = compositor
activated compositor (Some pending) = record compositor {
  active = pending;
  pending = None;
  marks = compositor.marks ++ marks_of_activation compositor.active.tree pending compositor.marks;
}

-- An activation is a step, with a pending commit or without.
abbrev pub compositor_after_activation : CompositorState → CompositorState
compositor_after_activation compositor =
    record (activated compositor compositor.pending) { steps = compositor.steps + 1 }

-- the marks once those of a tick are made
abbrev pub marks_with_tick : CompositorState → ℕ → List Mark
marks_with_tick compositor time =
    compositor.marks ++ marks_of_tick compositor.active.tree compositor.pending compositor.marks time

-- the marks of a tick are made, and its frame is not drawn yet
abbrev pub compositor_ticked : CompositorState → ℕ → CompositorState
compositor_ticked compositor time = record compositor { marks = marks_with_tick compositor time; last_tick = time }

-- With its frame a tick is a step.
abbrev pub compositor_after_tick : CompositorState → ℕ → CompositorState
compositor_after_tick compositor time = record (compositor_ticked compositor time) { steps = compositor.steps + 1 }

-- the events that are to be sent
abbrev pub news_of : CompositorState → List AnimEvent
news_of compositor = map event_of (drop compositor.sent compositor.marks)

abbrev pub compositor_after_send : CompositorState → CompositorState
compositor_after_send compositor = record compositor { sent = length compositor.marks }

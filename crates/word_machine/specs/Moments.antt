-- Where a replay is: what its sides, its board and its lists have in the middle of a word.
use Rattle.std.specs.Prelude.{◌≡◌, ℕ, ◌+◌, ◌≤◌, true, List, [], length}
use Rattle.anim_names.specs.declared.event.AnimEvent.{AnimEvent}
use Rattle.anim_names.specs.declared.lane.Lane.{Lane}
use Rattle.anim_timeline.specs.declared.TheConstants.{LAST_TIME}
use Rattle.event_queue.specs.Queues.{unheard}
use Rattle.frame_exchange.specs.Journals.{Exchange}
use Rattle.frame_exchange.specs.Sides.{CompositorState, MainState, main_after_closing, main_after_hearing, new_compositor, new_main}
use Rattle.run_rules.specs.declared.compositor_step.CompositorStep.{CompositorStep}
use Rattle.tree_commit.specs.Edits.{Book}
use Rattle.anim_names.specs.Lists.{IsAmong}
use Rattle.run_rules.specs.Frames.{DrawnFrame}
use Rattle.run_rules.specs.Scripts.{ScriptLists, are_allowed, are_at_most, book_of, never_fall_from, ticks_of, event_room}
use Rattle.word_machine.specs.Courses.{Course, board_of, compositor_of, course_of, main_of}

-- how many models a script ever adds
abbrev pub model_count : ScriptLists → ℕ
model_count script = length (book_of script.main).models

-- A replay may begin: both sides are new, the board has no entry, and there is room for an entry a step and for two
-- events a model.
pub record MayReplay (script : ScriptLists) (main : MainState) (compositor : CompositorState) (board : Exchange) : Type 0 where
  pub new_main : main ≡ new_main main.room
  pub new_compositor : compositor ≡ new_compositor compositor.models
  pub no_entry : board.entries ≡ []
  pub entry_room : length script.main + length script.compositor ≤ board.room
  pub queue_room : event_room script ≤ board.queue.room
  pub batch_room : event_room script ≤ main.room
  pub models : model_count script ≤ compositor.models

-- The ticks of these steps never fall from this time on, are in time, and are the script's.
pub record TicksAreLeft (script : ScriptLists) (left : List CompositorStep) (last_tick : ℕ) : Type 0 where
  pub order : never_fall_from last_tick (ticks_of left) ≡ true
  pub times : are_at_most LAST_TIME (ticks_of left) ≡ true
  pub ticks : (tick : ℕ) → IsAmong tick (ticks_of left) → IsAmong tick (ticks_of script.compositor)

-- The book allows what is left of main; the ticks that are left never fall, are in time, and are the script's; and no
-- lane has made a step that the script has not.
pub record IsUnderWay (script : ScriptLists) (course : Course) (book : Book) (last_tick : ℕ) : Type 0 where
  pub counted : book.commits ≡ length course.lanes.main.commits
  pub allowed : are_allowed book course.lanes.main.left ≡ true
  pub main_steps : course.main_made + length course.lanes.main.left ≡ length script.main
  pub compositor_steps : course.compositor_made + length course.lanes.compositor.left ≡ length script.compositor
  pub ticks : TicksAreLeft script course.lanes.compositor.left last_tick

-- There is room for what is left of a run.
pub record HasRoom (script : ScriptLists) (course : Course) (batch_room models room queue_room : ℕ) : Type 0 where
  pub for_entries : length course.lanes.main.left + length course.lanes.compositor.left ≤ room
  pub for_events : event_room script ≤ queue_room + length course.lanes.compositor.marks
  pub for_batches : event_room script ≤ batch_room
  pub for_models : model_count script ≤ models

-- The sides, the board, the heard counts and the frames are those of the run after this word.
pub record IsAt (script : ScriptLists) (word : List Lane) (main : MainState) (compositor : CompositorState) (board : Exchange) (counts : List ℕ) (frames : List DrawnFrame) : Type 0 where
  pub of_main : main ≡ main_of (course_of script word) main.book main.room
  pub of_compositor : compositor ≡ compositor_of (course_of script word) compositor.last_tick compositor.models
  pub of_board : board ≡ board_of (course_of script word) board.room board.queue.room
  pub of_counts : counts ≡ (course_of script word).lanes.main.counts
  pub of_frames : frames ≡ (course_of script word).lanes.compositor.frames
  pub under_way : IsUnderWay script (course_of script word) main.book compositor.last_tick
  pub rooms : HasRoom script (course_of script word) main.room compositor.models board.room board.queue.room

-- main's side once the closing drain has given it these events and it has heard them
abbrev pub heard_out : MainState → List AnimEvent → MainState
heard_out main events = main_after_hearing (main_after_closing main events)

-- What a replay of this word leaves. The board is that of the run, with the whole journal and every event, and the
-- compositor's side is that of the run. Main's side is that of the run too, and has heard the rest.
pub record Leaves (script : ScriptLists) (word : List Lane) (main : MainState) (compositor : CompositorState) (board : Exchange) : Type 0 where
  pub of_board : board ≡ board_of (course_of script word) board.room board.queue.room
  pub of_compositor : compositor ≡ compositor_of (course_of script word) compositor.last_tick compositor.models
  pub of_main : main ≡ heard_out (main_of (course_of script word) main.book main.room) (unheard board.queue)

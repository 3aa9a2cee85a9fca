-- What a lane knows of a run while the other lane goes on.
use Rattle.std.specs.Prelude.{◌≡◌, ℕ, ◌+◌, ◌≤◌, true, List, ◌∷◌, ◌++◌, drop, length, replicate}
use Rattle.anim_names.specs.declared.lane.Lane.{Lane}
use Rattle.anim_names.specs.declared.lane.Lane.TheVariants.{Main, Compositor}
use Rattle.commit_lock.specs.Journals.{entries_of}
use Rattle.commit_lock.specs.Seats.{SeatState}
use Rattle.frame_exchange.specs.Journals.{Exchange, word_of_journal, word_so_far}
use Rattle.frame_exchange.specs.Sides.{CompositorState, MainState, compositor_after_activation, compositor_after_tick}
use Rattle.frame_script.specs.Printing.{script_text}
use Rattle.run_rules.specs.declared.compositor_step.CompositorStep.{CompositorStep}
use Rattle.run_rules.specs.declared.compositor_step.CompositorStep.TheVariants.{Pull, Activate, Tick}
use Rattle.run_rules.specs.Frames.{DrawnFrame}
use Rattle.run_rules.specs.Scripts.{IsWordOf, ScriptLists, StepOfMain, are_allowed, event_room}
use Rattle.word_machine.specs.Courses.{board_of, compositor_of, course_of, main_of}
use Rattle.word_machine.specs.Moments.{IsAt, TicksAreLeft, model_count}

-- the word with this many more letters of the lane
abbrev pub with_letters : Lane → ℕ → List Lane → List Lane
with_letters lane count word = word ++ replicate count lane

-- ---- seats

-- The seat is of this lane and of a run of this script. What it has seen is the history of the run after its own word,
-- and what is its own there is all that its lane has noted.
pub record IsSeatOf (script : ScriptLists) (lane : Lane) (seat : SeatState) : Type 0 where
  pub lane_is : seat.lane ≡ lane
  pub subject : seat.subject ≡ script_text script
  pub mine : seat.mine ≡ entries_of lane seat.seen
  pub history : seat.seen ≡ (course_of script (word_so_far seat.seen)).entries

-- ---- main

-- the step is the one that main makes after this number of steps
abbrev pub IsNextOfMain : ScriptLists → ℕ → StepOfMain → Type 0
IsNextOfMain script made step = drop made script.main ≡ step ∷ drop (made + 1) script.main

-- Main's side and its counts are those of the run after this word.
pub record IsMainAt (script : ScriptLists) (word : List Lane) (main : MainState) (counts : List ℕ) : Type 0 where
  pub of_main : main ≡ main_of (course_of script word) main.book main.room
  pub of_counts : counts ≡ (course_of script word).lanes.main.counts
  pub of_left : (course_of script word).lanes.main.left ≡ drop main.steps script.main
  pub counted : main.book.commits ≡ length (course_of script word).lanes.main.commits
  pub allowed : are_allowed main.book (drop main.steps script.main) ≡ true
  pub batch_room : event_room script ≤ main.room

-- Main is this many steps ahead of a word, and these steps left the board as it was.
pub record IsMainAhead (script : ScriptLists) (word : List Lane) (silent : ℕ) (main : MainState) (counts : List ℕ) : Type 0 where
  pub at : IsMainAt script (with_letters Main silent word) main counts
  pub made : (course_of script (with_letters Main silent word)).main_made ≡ (course_of script word).main_made + silent
  pub quiet : (room queue_room : ℕ) → board_of (course_of script (with_letters Main silent word)) room queue_room
      ≡ board_of (course_of script word) room queue_room

-- Main is a number of steps ahead of what its seat has seen, however many steps the compositor has made meanwhile.
pub record KnowsMain (script : ScriptLists) (seat : SeatState) (main : MainState) (counts : List ℕ) : Type 0 where
  pub seat_is : IsSeatOf script Main seat
  pub silent : ℕ
  pub ahead : (others : ℕ) → IsMainAhead script (with_letters Compositor others (word_so_far seat.seen)) silent main counts

-- ---- the compositor

-- the step is the one that the compositor makes after this number of steps
abbrev pub IsNextOfCompositor : ScriptLists → ℕ → CompositorStep → Type 0
IsNextOfCompositor script made step = drop made script.compositor ≡ step ∷ drop (made + 1) script.compositor

-- The compositor's side and its frames are those of the run after this word.
pub record IsCompositorAt (script : ScriptLists) (word : List Lane) (compositor : CompositorState) (frames : List DrawnFrame) : Type 0 where
  pub of_compositor : compositor ≡ compositor_of (course_of script word) compositor.last_tick compositor.models
  pub of_frames : frames ≡ (course_of script word).lanes.compositor.frames
  pub of_left : (course_of script word).lanes.compositor.left ≡ drop compositor.steps script.compositor
  pub ticks : TicksAreLeft script (drop compositor.steps script.compositor) compositor.last_tick
  pub models : model_count script ≤ compositor.models

-- The compositor is this many steps ahead of a word, and these steps left the board as it was.
pub record IsCompositorAhead (script : ScriptLists) (word : List Lane) (silent : ℕ) (compositor : CompositorState) (frames : List DrawnFrame) : Type 0 where
  pub at : IsCompositorAt script (with_letters Compositor silent word) compositor frames
  pub made : (course_of script (with_letters Compositor silent word)).compositor_made ≡ (course_of script word).compositor_made + silent
  pub quiet : (room queue_room : ℕ) → board_of (course_of script (with_letters Compositor silent word)) room queue_room
      ≡ board_of (course_of script word) room queue_room

-- The compositor is a number of steps ahead of what its seat has seen, however many steps main has made meanwhile.
pub record KnowsCompositor (script : ScriptLists) (seat : SeatState) (compositor : CompositorState) (frames : List DrawnFrame) : Type 0 where
  pub seat_is : IsSeatOf script Compositor seat
  pub silent : ℕ
  pub ahead : (others : ℕ) → IsCompositorAhead script (with_letters Main others (word_so_far seat.seen)) silent compositor frames

-- the side once the marks of an activation or of a tick are made, and its events are not sent
abbrev pub marked : CompositorStep → CompositorState → CompositorState
marked Pull compositor = compositor
marked Activate compositor = compositor_after_activation compositor
marked (Tick time) compositor = compositor_after_tick compositor time

-- ---- the end

-- Both lanes have ended: main's side, the board, the counts and the frames are those of the run after the word of the
-- board's journal, which is a word of the script.
pub record HaveEnded (script : ScriptLists) (board : Exchange) (main : MainState) (counts : List ℕ) (frames : List DrawnFrame) : Type 0 where
  pub compositor : CompositorState
  pub at : IsAt script (word_of_journal board.entries (length script.main) (length script.compositor)) main compositor board counts frames
  pub word : IsWordOf (length script.main) (length script.compositor) (word_of_journal board.entries (length script.main) (length script.compositor))

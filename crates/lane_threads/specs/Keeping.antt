-- What is kept behind the lock: a board, and the script whose steps its entries are of.
use Rattle.std.specs.Prelude.{◌≡◌, ◌+◌, ◌≤◌, length}
use Rattle.anim_names.specs.declared.lane.Lane.TheVariants.{Main, Compositor}
use Rattle.anim_names.specs.Lanes.{letters_of}
use Rattle.frame_exchange.specs.Journals.{Exchange, word_so_far}
use Rattle.run_rules.specs.Scripts.{IsWellFormed, ScriptLists, event_room}
use Rattle.word_machine.specs.Courses.{Course, board_of, course_of}

-- a board, and the script that the lanes run on it
pub record ScriptBoard : Type 0 where
  pub script : ScriptLists
  pub board : Exchange

-- the run of the script after the word of the board's journal so far
abbrev pub course_at : ScriptBoard → Course
course_at shared = course_of shared.script (word_so_far shared.board.entries)

-- Whenever a lane gets the lock: the entries, the mailbox and the events are those of the run after the word of the
-- journal so far; each letter of that word is a step that its lane has made; and there is room for all entries and
-- events that may still come.
pub record IsKeptBehindLock (shared : ScriptBoard) : Type 0 where
  pub well : IsWellFormed shared.script
  pub of_board : shared.board ≡ board_of (course_at shared) shared.board.room shared.board.queue.room
  pub main_made : (course_at shared).main_made ≡ letters_of Main (word_so_far shared.board.entries)
  pub compositor_made : (course_at shared).compositor_made ≡ letters_of Compositor (word_so_far shared.board.entries)
  pub main_within : (course_at shared).main_made ≤ length shared.script.main
  pub compositor_within : (course_at shared).compositor_made ≤ length shared.script.compositor
  pub for_entries : length shared.script.main + length shared.script.compositor
      ≤ shared.board.room + (course_at shared).main_made + (course_at shared).compositor_made
  pub for_events : event_room shared.script ≤ shared.board.queue.room + length (course_at shared).lanes.compositor.marks

-- Scripts as plain data, and which of them are well formed.
use Rattle.std.specs.Prelude.{◌≡◌, ℕ, ◌*◌, ◌≤◌, nat_lt, nat_le, Bool, true, false, ◌&&◌, IsTrue, is_none, List, [], ◌∷◌, length, filter_map, fold, Option, Some, None}
use Rattle.std.specs.List.{AllByRecursion}
use Rattle.anim_names.specs.declared.lane.Lane.{Lane}
use Rattle.anim_names.specs.declared.lane.Lane.TheVariants.{Main, Compositor}
use Rattle.anim_names.specs.declared.limit.TheConstants.{MOST_STEPS, MOST_COMMITS, MOST_FRAMES}
use Rattle.anim_timeline.specs.declared.TheConstants.{LAST_TIME}
use Rattle.anim_names.specs.declared.version.Version.{Version}
use Rattle.anim_names.specs.Lanes.{letters_of}
use Rattle.run_rules.specs.declared.compositor_step.CompositorStep.{CompositorStep}
use Rattle.run_rules.specs.declared.compositor_step.CompositorStep.TheVariants.{Pull, Activate, Tick}
use Rattle.tree_commit.specs.Ranges.{IsChange}
use Rattle.tree_commit.specs.Edits.{Change, Book, new_book, edit_refusal, book_after, book_after_commit}

-- ---- scripts

-- a step of main
pub data StepOfMain : Type 0 where
  EditStep : Change → StepOfMain
  CommitStep : StepOfMain
  DrainStep : StepOfMain

-- A script: the version of its language, main's steps, the compositor's steps, and a word, in which each letter stands
-- for its lane's next step.
pub record ScriptLists : Type 0 where
  pub version : Version
  pub main : List StepOfMain
  pub compositor : List CompositorStep
  pub word : List Lane

-- ---- words

-- a word of these numbers of steps of main and of the compositor
pub record IsWordOf (main compositor : ℕ) (word : List Lane) : Type 0 where
  pub of_main : letters_of Main word ≡ main
  pub of_compositor : letters_of Compositor word ≡ compositor

-- ---- main's steps

-- what edits are checked against after a step of main: a drain changes nothing of it
abbrev pub book_after_step : Book → StepOfMain → Book
book_after_step book (EditStep change) = book_after book change
book_after_step book CommitStep = book_after_commit book
book_after_step book DrainStep = book

-- the same after all steps of main
abbrev pub book_of : List StepOfMain → Book
book_of steps = fold book_after_step new_book steps

-- what may be a step of main, wherever it stands
abbrev pub IsStep : StepOfMain → Type 0
IsStep (EditStep change) = IsChange change
IsStep CommitStep = Unit {0}
IsStep DrainStep = Unit {0}

-- an edit that is not refused, a commit where there are fewer than may be, or a drain
abbrev pub is_allowed : Book → StepOfMain → Bool
is_allowed book (EditStep change) = is_none (edit_refusal book change)
is_allowed book CommitStep = nat_lt book.commits MOST_COMMITS
is_allowed book DrainStep = true

-- each step is allowed when its turn comes
unfoldable pub are_allowed : Book → List StepOfMain → Bool
are_allowed book [] = true
are_allowed book (step ∷ steps) = is_allowed book step && are_allowed (book_after_step book step) steps

-- the room for the events of a run: of each model that the script ever adds two, its start and its end
abbrev pub event_room : ScriptLists → ℕ
event_room script = 2 * length (book_of script.main).models

-- ---- the compositor's steps

-- the step makes no mark and draws no frame
abbrev pub is_quiet : CompositorStep → Bool
is_quiet Pull = true
is_quiet Activate = false
is_quiet (Tick time) = false

abbrev pub time_of_tick : CompositorStep → Option ℕ
time_of_tick Pull = None
time_of_tick Activate = None
time_of_tick (Tick time) = Some time

-- the times of the ticks, in order
abbrev pub ticks_of : List CompositorStep → List ℕ
ticks_of steps = filter_map time_of_tick steps

-- the first number is at least this one, and each further one at least the one before it
abbrev pub never_fall_from : ℕ → List ℕ → Bool
never_fall_from least [] = true
never_fall_from least (n ∷ ns) = nat_le least n && never_fall_from n ns

-- each number is at most this one
abbrev pub are_at_most : ℕ → List ℕ → Bool
are_at_most most [] = true
are_at_most most (n ∷ ns) = nat_le n most && are_at_most most ns

-- ---- well-formed scripts

-- A script may run: neither lane is too long, each edit is of values that may be and is allowed when its turn comes, the
-- ticks never fall and end in time, there are not too many frames of elements, and the word has a letter for each step.
pub record IsWellFormed (script : ScriptLists) : Type 0 where
  pub main_steps : length script.main ≤ MOST_STEPS
  pub compositor_steps : length script.compositor ≤ MOST_STEPS
  pub ranges : AllByRecursion IsStep script.main
  pub edits : IsTrue (are_allowed new_book script.main)
  pub order : IsTrue (never_fall_from 0 (ticks_of script.compositor))
  pub times : IsTrue (are_at_most LAST_TIME (ticks_of script.compositor))
  pub frames : length (ticks_of script.compositor) * (book_of script.main).elements_added ≤ MOST_FRAMES
  pub word : IsWordOf (length script.main) (length script.compositor) script.word

-- A run with its journal: what each step notes for the other lane, and what the sides and the board have of it.
use Rattle.std.specs.Prelude.{ℕ, ◌+◌, ◌==◌, nat_lt, ◌&&◌, if◌then◌else◌, is_none, List, [], ◌∷◌, ◌++◌, length, map, fold, Option, Some, None}
use Rattle.anim_names.specs.declared.entry.Entry.{Entry}
use Rattle.anim_names.specs.declared.entry.EntryKind.{EntryKind}
use Rattle.anim_names.specs.declared.entry.EntryKind.TheVariants as kind
use Rattle.anim_names.specs.declared.lane.Lane.{Lane}
use Rattle.anim_names.specs.declared.lane.Lane.TheVariants.{Main, Compositor}
use Rattle.frame_exchange.specs.Journals.{Exchange}
use Rattle.frame_exchange.specs.Sides.{CompositorState, MainState}
use Rattle.run_rules.specs.declared.mark.Mark.{Mark}
use Rattle.run_rules.specs.declared.compositor_step.CompositorStep.{CompositorStep}
use Rattle.run_rules.specs.declared.compositor_step.CompositorStep.TheVariants.{Pull, Activate, Tick}
use Rattle.tree_commit.specs.Edits.{Book}
use Rattle.tree_commit.specs.Trees.{Committed}
use Rattle.run_rules.specs.Marks.{event_of}
use Rattle.run_rules.specs.Scripts.{StepOfMain, EditStep, CommitStep, DrainStep, ScriptLists}
use Rattle.run_laws.specs.Steps.{marks_of_step}
use Rattle.run_rules.specs.Runs.{Lanes, MainLane, CompositorLane, beginning, after_letter, newest_commit, unheard_events}

-- ---- what a step notes

-- A commit step notes the number of its commit, and a drain how many events it hears.
abbrev pub noted_by_main : List Mark → StepOfMain → MainLane → List EntryKind
noted_by_main marks (EditStep change) lane = []
noted_by_main marks CommitStep lane = kind.Publish (length lane.commits + 1) ∷ []
noted_by_main marks DrainStep lane = kind.Drain (length (unheard_events marks lane)) ∷ []

-- the number of the commit that a pull takes
abbrev pub number_pulled : Committed → CompositorLane → Option ℕ
number_pulled newest lane =
    if is_none lane.pending && nat_lt lane.pulled newest.number then Some newest.number else None

-- New marks are sent, and where there are none nothing is noted.
abbrev pub sending : List Mark → List EntryKind
sending [] = []
sending (mark ∷ marks) = kind.Send (length (mark ∷ marks)) ∷ []

-- A pull notes the number that it takes, a tick and an activation how many events they send.
abbrev pub noted_by_compositor : List Committed → CompositorStep → CompositorLane → List EntryKind
noted_by_compositor commits Pull lane = kind.Pull (number_pulled (newest_commit commits) lane) ∷ []
noted_by_compositor commits Activate lane = sending (marks_of_step Activate lane)
noted_by_compositor commits (Tick time) lane = sending (marks_of_step (Tick time) lane)

-- ---- a run with its journal

-- both lanes, how many steps each has made, and the entries that these noted
pub record Course : Type 0 where
  pub lanes : Lanes
  pub main_made : ℕ
  pub compositor_made : ℕ
  pub entries : List Entry

abbrev pub opening : ScriptLists → Course
opening script = record { lanes = beginning script; main_made = 0; compositor_made = 0; entries = [] }

-- what main's next step notes, and how many steps main has made then, where a step is left
abbrev pub main_notes : Lanes → List StepOfMain → List EntryKind
main_notes lanes [] = []
main_notes lanes (step ∷ left) = noted_by_main lanes.compositor.marks step lanes.main

abbrev pub compositor_notes : Lanes → List CompositorStep → List EntryKind
compositor_notes lanes [] = []
compositor_notes lanes (step ∷ left) = noted_by_compositor lanes.main.commits step lanes.compositor

abbrev pub made_with : {A : Type 0} → ℕ → List A → ℕ
made_with made [] = made
made_with made (step ∷ left) = made + 1

-- the entries of one step of a lane, which has made this many steps then
abbrev pub entries_with : Lane → ℕ → List EntryKind → List Entry
entries_with lane upto kinds = map (λ kind. record { lane = lane; upto = upto; kind = kind }) kinds

-- A letter is the next step of its lane, and what that notes goes behind the entries so far.
abbrev pub course_after : Course → Lane → Course
course_after course Main = record course {
  lanes = after_letter course.lanes Main;
  main_made = made_with course.main_made course.lanes.main.left;
  entries = course.entries
      ++ entries_with Main (course.main_made + 1) (main_notes course.lanes course.lanes.main.left);
}
course_after course Compositor = record course {
  lanes = after_letter course.lanes Compositor;
  compositor_made = made_with course.compositor_made course.lanes.compositor.left;
  entries = course.entries
      ++ entries_with Compositor (course.compositor_made + 1) (compositor_notes course.lanes course.lanes.compositor.left);
}

-- the run of a script after a word, letter by letter
unfoldable pub course_of : ScriptLists → List Lane → Course
course_of script word = fold course_after (opening script) word

-- ---- what the sides and the board have of a run

-- the newest commit, until it is pulled
abbrev pub in_mailbox : Lanes → Option Committed
in_mailbox lanes =
    if (newest_commit lanes.main.commits).number == lanes.compositor.pulled then None else
    Some (newest_commit lanes.main.commits)

-- The board of a run, with this much room: its entries are those that the steps noted, its mailbox has the newest commit
-- until that is pulled, and its events are those of the marks, of which main has heard the first.
abbrev pub board_of : Course → ℕ → ℕ → Exchange
board_of course room queue_room = record {
  entries = course.entries;
  mailbox = in_mailbox course.lanes;
  queue = record {
    events = map event_of course.lanes.compositor.marks;
    heard = length course.lanes.main.heard;
    room = queue_room;
  };
  room = room;
}

-- main's side between two steps of a run, with the book of the steps so far
abbrev pub main_of : Course → Book → ℕ → MainState
main_of course book room = record {
  tree = course.lanes.main.tree;
  book = book;
  heard = length course.lanes.main.heard;
  built = None;
  batch = [];
  steps = course.main_made;
  room = room;
}

-- the compositor's side between two steps of a run, whose last tick was at this time
abbrev pub compositor_of : Course → ℕ → ℕ → CompositorState
compositor_of course last_tick models = record {
  active = course.lanes.compositor.active;
  pending = course.lanes.compositor.pending;
  pulled = None;
  marks = course.lanes.compositor.marks;
  sent = length course.lanes.compositor.marks;
  last_tick = last_tick;
  steps = course.compositor_made;
  models = models;
}

-- The rule of the lock: what is true of its two numbers, its slot and what all seats know, between any two atomic steps.
use Rattle.std.specs.Prelude.{◌≡◌, ◌≢◌, ℕ, List, [], ◌∷◌, length, Option, Some, if◌then◌else◌}
use mathlib.Core.Option.{Option as IfHome, some, none}
use lib.ListN.{get_elem?}
use Rattle.atomic_table.specs.Table.{State}
use Rattle.anim_names.specs.declared.lane.Lane.{Lane}
use Rattle.anim_names.specs.declared.lane.Lane.TheVariants.{Main, Compositor}
use Rattle.anim_names.specs.declared.entry.Entry.{Entry}
use Rattle.commit_lock.specs.declared.view.Stage.{Stage}
use Rattle.commit_lock.specs.declared.view.Stage.TheVariants.{Absent, Outside, HasTurn, HasValue}
use Rattle.commit_lock.specs.declared.view.Part.{Part}
use Rattle.commit_lock.specs.declared.view.View.{View}
use Rattle.commit_lock.specs.Journals.{entries_of}
use Rattle.anim_names.specs.Lanes.{is_lane}
use Rattle.anim_names.specs.Lists.{BeginsWith}
use Rattle.commit_lock.specs.Views.{part_of}

-- Whose turn it is: no lane's; a lane's, while the value lies in its slot; or a lane's, while the value is out with its seat
pub data Turn : Type 0 where
  free : Turn
  entered : Lane → Turn
  out : Lane → Turn

-- the number by which word 0 names a lane
abbrev pub number_of : Lane → ℕ
number_of Main = 1
number_of Compositor = 2

abbrev pub turn_word : Turn → ℕ
turn_word free = 0
turn_word (entered lane) = number_of lane
turn_word (out lane) = number_of lane

-- where a lane stands, by whose turn it is
abbrev pub stage_of : Turn → Lane → Stage
stage_of free lane = Outside
stage_of (entered whose) lane = if is_lane whose lane then HasTurn else Outside
stage_of (out whose) lane = if is_lane whose lane then HasValue else Outside

-- What a lane's seat knows is so
pub record FitsLane (subject : List ℕ) (turn : Turn) (journal : List Entry) (lane : Lane) (part : Part) : Type 0 where
  -- it knows what the journal is about
  pub subject_is : part.subject ≡ subject
  -- it knows whether the lane has the turn, and where the value then is
  pub stage : part.stage ≡ stage_of turn lane
  -- the journal begins with what it has seen
  pub seen : BeginsWith journal part.seen
  -- the journal has of the lane exactly the seat's own entries, in their order
  pub mine : entries_of lane journal ≡ part.mine
  -- with the value it has seen all of the journal
  pub all : part.stage ≡ HasValue → part.seen ≡ journal

-- What lies in the slot, where the slot is home
module _ {V : Type 0} (journal_of : V → List Entry) (subject_of : V → List ℕ) where
  -- a value with this journal, about this subject
  abbrev pub IsHome : List ℕ → List Entry → List (IfHome (Option V)) → Type 0
  IsHome subject journal homes =
      (value : V) × (homes ≡ some (Some value) ∷ []) × (journal_of value ≡ journal) × (subject_of value ≡ subject)

  -- by whose turn it is
  abbrev pub FitsSlot : Turn → List ℕ → List Entry → List (IfHome (Option V)) → Type 0
  FitsSlot free subject journal homes = IsHome subject journal homes
  FitsSlot (entered lane) subject journal homes = IsHome subject journal homes
  FitsSlot (out lane) subject journal homes = homes ≡ none ∷ []

-- A seat that speaks for a lane is the lane's one seat, and knows what is known of the lane
abbrev pub FitsView : (Lane → ℕ) → (Lane → Part) → ℕ → View → Type 0
FitsView seat part id v = (lane : Lane) → (part_of v lane).stage ≢ Absent → (id ≡ seat lane) × (part_of v lane ≡ part lane)

pub record IsKept {V : Type 0} (journal_of : V → List Entry) (subject_of : V → List ℕ) (subject : List ℕ) (s : State (Option V) View) : Type 0 where
  -- whose turn it is: at most one lane's
  pub turn : Turn
  -- the journal, as far as it was counted
  pub journal : List Entry
  -- the number of each lane's one seat, and what that seat knows of the lane
  pub seat : Lane → ℕ
  pub part : Lane → Part
  -- word 0 names the lane that has the turn, and is 0 where none has it. Word 1 is the journal's length
  pub words : s.words ≡ turn_word turn ∷ length journal ∷ []
  -- where the turn is free the value is home. A value that is home has this journal, and is about the subject
  pub home : FitsSlot journal_of subject_of turn subject journal s.homes
  -- what each lane has seen is a beginning of the journal, which has of the lane exactly its own entries. All is about one subject
  pub lanes : (lane : Lane) → FitsLane subject turn journal lane (part lane)
  -- the journal is the longest that was seen: some lane has seen all of it
  pub longest : (lane : Lane) × ((part lane).seen ≡ journal)
  -- no other seat speaks for a lane
  pub views : (id : ℕ) (v : View) → get_elem? s.views id ≡ some v → FitsView seat part id v

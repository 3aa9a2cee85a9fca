-- What each atomic step of a section tells the seat that makes it: of the step, the seat before, the number found and the seat after.
use Rattle.std.specs.Prelude.{◌≡◌, ◌==◌, ℕ, List, [], ◌∷◌, Option, Some, MatchBool}
use Rattle.atomic_table.specs.Table.{Me, Step, rest}
use Rattle.anim_names.specs.declared.entry.Entry.{Entry}
use Rattle.commit_lock.specs.declared.view.Stage.{Stage}
use Rattle.commit_lock.specs.declared.view.Stage.TheVariants.{Outside, HasTurn, HasValue}
use Rattle.commit_lock.specs.declared.view.Part.{Part}
use Rattle.commit_lock.specs.declared.view.View.{View}
use Rattle.commit_lock.specs.Views.{absent}
use Rattle.commit_lock.specs.Journals.{entries_of}
use Rattle.anim_names.specs.Lists.{BeginsWith}

-- the view with another part of its own lane
abbrev pub with_own : View → Part → View
with_own v part = record { lane = v.lane; own = part; other = v.other }

-- the lane stands elsewhere, and knows what it knew
abbrev pub at_stage : Stage → View → View
at_stage stage v = with_own v (record { stage = stage; subject = v.own.subject; seen = v.own.seen; mine = v.own.mine })

-- the lane has the value out, and has seen this journal
abbrev pub having_seen : List Entry → View → View
having_seen journal v = with_own v (record { stage = HasValue; subject = v.own.subject; seen = journal; mine = v.own.mine })

-- the same, and what the journal has of the lane is its own
abbrev pub having_counted : List Entry → View → View
having_counted journal v = with_own v (record { stage = HasValue; subject = v.own.subject; seen = journal; mine = entries_of v.lane journal })

-- The seat speaks for its own lane alone, the lane stands there, and these slots are out with it
pub record Stands {V : Type 0} (stage : Stage) (slots : List (ℕ × Option V)) (me : Me (Option V) View) : Type 0 where
  pub stage_is : me.0.own.stage ≡ stage
  pub alone : me.0.other ≡ absent
  pub slots_are : me.1 ≡ slots

-- The slot that is out has a value with the journal that was seen, about the subject
abbrev pub HasSeenValue : {V : Type 0} → (V → List Entry) → (V → List ℕ) → Me (Option V) View → Type 0
HasSeenValue {V} journal_of subject_of me =
    (value : V) × (me.1 ≡ (0, Some value) ∷ []) × (journal_of value ≡ me.0.own.seen) × (subject_of value ≡ me.0.own.subject)

-- what is the lane's own is what the journal that was seen has of it
abbrev pub HasOwn : View → Type 0
HasOwn v = entries_of v.lane v.own.seen ≡ v.own.mine

module _ {V : Type 0} where
  -- the lane has the turn where it was free, and else nothing changed
  abbrev pub TakesTurn : Step (Option V) → Me (Option V) View → ℕ → Me (Option V) View → Type 0
  TakesTurn step before found after = MatchBool (found == 0) (after ≡ (at_stage HasTurn before.0, before.1)) (after ≡ before)

  -- the value is home again
  abbrev pub PutsBack : Step (Option V) → Me (Option V) View → ℕ → Me (Option V) View → Type 0
  PutsBack step before found after = after ≡ (at_stage HasTurn before.0, rest before.1)

  abbrev pub EndsTurn : Step (Option V) → Me (Option V) View → ℕ → Me (Option V) View → Type 0
  EndsTurn step before found after = after ≡ (at_stage Outside before.0, before.1)

module _ {V : Type 0} (journal_of : V → List Entry) (subject_of : V → List ℕ) where
  -- a value is out with the seat, and has been seen. It is about the subject, its journal begins with what was seen before, and has of the lane exactly its own entries
  abbrev pub TakesValue : Step (Option V) → Me (Option V) View → ℕ → Me (Option V) View → Type 0
  TakesValue step before found after =
      (value : V)
      × (after ≡ (having_seen (journal_of value) before.0, (0, Some value) ∷ before.1))
      × (subject_of value ≡ before.0.own.subject)
      × BeginsWith (journal_of value) before.0.own.seen
      × (entries_of before.0.lane (journal_of value) ≡ before.0.own.mine)

module _ {V : Type 0} (journal_of : V → List Entry) where
  -- the journal of the value that is out is counted
  abbrev pub Counts : Step (Option V) → Me (Option V) View → ℕ → Me (Option V) View → Type 0
  Counts step before found after =
      (value : V) → before.1 ≡ (0, Some value) ∷ [] → after ≡ (having_counted (journal_of value) before.0, before.1)

-- Groups: their models start together and finish together, with their element there, and block alone.
use Rattle.std.specs.Prelude.{◌≡◌, ℕ, Bool, ◌&&◌, IsTrue, IsFalse, List}
use Rattle.std.specs.List.{list_any}
use Rattle.anim_names.specs.declared.lane.Lane.{Lane}
use Rattle.anim_names.specs.declared.property.Property.{Property}
use Rattle.run_rules.specs.declared.mark.Begun.{Begun}
use Rattle.run_rules.specs.declared.mark.Mark.{Mark}
use Rattle.tree_commit.specs.Trees.{has_element}
use Rattle.run_rules.specs.Marks.{starts, starts_in, blocks, pending_allows}
use Rattle.run_rules.specs.Runs.{Lanes, after_letter}
use Rattle.anim_names.specs.Lists.{IsAmong}
use Rattle.run_laws.specs.Steps.{new_marks}
use Rattle.run_laws.specs.Ends.{is_finished, is_group_finished}
use Rattle.run_laws.specs.Starts.{IfStarts}

-- ---- starts

-- Two models that start in one group are of one element, and start at one tick with one recorded start.
abbrev pub BeginAlike : Begun → Begun → Type 0
BeginAlike begun other =
    begun.group ≡ other.group → (begun.element ≡ other.element) × (begun.at ≡ other.at) × (begun.start ≡ other.start)

-- two starts in one group are alike
abbrev pub AreAlike : Mark → Mark → Type 0
AreAlike one other = IfStarts (λ begun. IfStarts (BeginAlike begun) other) one

-- all starts of a group agree
abbrev pub StartsAgree : List Mark → Type 0
StartsAgree marks = (one other : Mark) → IsAmong one marks → IsAmong other marks → AreAlike one other

-- All starts of a group are of one step: one that starts in a step had not started before. They are of one element, at
-- one tick, with one recorded start.
pub record StartsTogether (lanes : Lanes) (letter : Lane) : Type 0 where
  pub one_step :
      (group : ℕ) → IsTrue (list_any (starts_in group) (new_marks lanes letter))
      → IsFalse (list_any (starts_in group) lanes.compositor.marks)
  pub alike : StartsAgree (after_letter lanes letter).compositor.marks

-- A start is of an element that is in the active commit and, where the pending commit holds a model of the group, in
-- that too.
abbrev pub HasTarget : Lanes → Mark → Type 0
HasTarget lanes mark =
    IfStarts (λ begun.
    IsTrue (has_element lanes.compositor.active.tree begun.element)
    × IsTrue (pending_allows lanes.compositor.pending begun.group begun.element)) mark

-- so is each start that a step makes, by the commits before the step
abbrev pub TargetsPresent : Lanes → Lane → Type 0
TargetsPresent lanes letter = (mark : Mark) → IsAmong mark (new_marks lanes letter) → HasTarget lanes mark

-- ---- blocking

-- At most one group blocks a property of an element.
abbrev pub OneBlocker : List Mark → Type 0
OneBlocker marks =
    (one other element : ℕ) (property : Property) → IsTrue (blocks marks one element property)
    → IsTrue (blocks marks other element property) → one ≡ other

-- ---- finishes

-- the model started in the group
abbrev pub is_of_group : List Mark → ℕ → ℕ → Bool
is_of_group marks group id = list_any (λ mark. starts_in group mark && starts id mark) marks

-- All finishes of a group are of one step: where a model of the group has finished, none finishes in a later step.
abbrev pub FinishesTogether : Lanes → Lane → Type 0
FinishesTogether lanes letter =
    (group id : ℕ) → IsTrue (is_group_finished lanes.compositor.marks group)
    → IsTrue (is_of_group lanes.compositor.marks group id) → IsFalse (is_finished (new_marks lanes letter) id)

-- The list of marks as the host keeps it.
use Rattle.std.specs.Prelude.{ℕ, ◌≤◌, ◌==◌, Bool, if◌then◌else◌, ℤ, unsigned_abs, List, [], ◌∷◌, ◌++◌, map, drop, Option, Some, None}
use Rattle.anim_names.specs.declared.event.AnimEvent.{AnimEvent}
use Rattle.anim_timeline.specs.declared.TheConstants.{LAST_TIME}
use Rattle.run_rules.specs.declared.mark.Mark.{Mark}
use Rattle.run_rules.specs.declared.mark.ModelMark.{ModelMark}
use Rattle.run_rules.specs.declared.mark.Mark.TheVariants.{OfModel}
use Rattle.run_rules.specs.declared.mark.ModelMark.TheVariants.{Started, Finished, Aborted}
use Rattle.run_rules.specs.Marks.{event_of}

-- The marks; how many of them there were when the news were cleared; and for how many marks in all there is room.
pub record Marked : Type 0 where
  pub marks : List Mark
  pub cleared : ℕ
  pub room : ℕ

-- where a model started, the recorded start is at most the last time in size
abbrev pub BeginsWithin : ModelMark → Type 0
BeginsWithin (Started begun) = unsigned_abs begun.start ≤ LAST_TIME
BeginsWithin (Finished at) = Unit {0}
BeginsWithin (Aborted commit) = Unit {0}

-- the start that the mark records, where it records one, is within
abbrev pub StartIsWithin : Mark → Type 0
StartIsWithin (OfModel model what) = BeginsWithin what

-- each recorded start is
abbrev pub StartsAreWithin : List Mark → Type 0
StartsAreWithin [] = Unit {0}
StartsAreWithin (mark ∷ marks) = StartIsWithin mark × StartsAreWithin marks

-- the events of the marks behind the first ones, by their number
abbrev pub events_behind : ℕ → List Mark → List AnimEvent
events_behind cleared marks = map event_of (drop cleared marks)

-- with new marks behind the others
abbrev pub with_marks : Marked → List Mark → Marked
with_marks marked new = record marked { marks = marked.marks ++ new }

-- a mark where the test says so
abbrev pub mark_if : Bool → Mark → List Mark
mark_if test mark = if test then mark ∷ [] else []

-- the start that what became of a model records
abbrev pub begun_start : ModelMark → Option ℤ
begun_start (Started begun) = Some begun.start
begun_start (Finished at) = None
begun_start (Aborted commit) = None

-- the start that a mark records for this model
abbrev pub start_in : ℕ → Mark → Option ℤ
start_in id (OfModel model what) = if id == model then begun_start what else None

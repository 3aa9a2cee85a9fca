-- How large the numbers of a run grow.
use Rattle.std.specs.Prelude.{◌≡◌, ℕ, ◌≤◌, ◌<◌, ◌^◌, unsigned_abs, List, length, Some}
use Rattle.anim_timeline.specs.declared.TheConstants.{LAST_TIME}
use Rattle.micro_time.specs.declared.TheConstants.{LARGEST_LOCAL}
use Rattle.keyframe_model.specs.Models.{Spec}
use Rattle.run_rules.specs.declared.mark.Mark.{Mark}
use Rattle.tree_commit.specs.declared.shown.Shown.{Shown}
use Rattle.tree_commit.specs.Trees.{local_time}
use Rattle.run_rules.specs.Marks.{start_of}
use Rattle.run_rules.specs.Scripts.{ScriptLists, event_room, ticks_of}
use Rattle.run_rules.specs.Runs.{Lanes}
use Rattle.anim_names.specs.Lists.{IsAmong}
use Rattle.run_laws.specs.Starts.{IfStarts}

-- the recorded start, of a mark that has one, is at most the last time in size
abbrev pub HasSmallStart : Mark → Type 0
HasSmallStart mark = IfStarts (λ begun. unsigned_abs begun.start ≤ LAST_TIME) mark

-- Each recorded start is at most the last time in size.
abbrev pub StartsAreSmall : List Mark → Type 0
StartsAreSmall marks = (mark : Mark) → IsAmong mark marks → HasSmallStart mark

-- At each tick of the script the local time of a started model of the active commit is within `LARGEST_LOCAL` in size,
-- which is what the phase and the curve time of a timing ask for.
abbrev pub LocalTimesAreSmall : ScriptLists → Lanes → Type 0
LocalTimesAreSmall script lanes =
    (tick : ℕ) → IsAmong tick (ticks_of script.compositor)
    → (model : Spec) → IsAmong model lanes.compositor.active.tree.models
    → (shown : Shown) → start_of lanes.compositor.marks model.id ≡ Some shown
    → unsigned_abs (local_time lanes.compositor.active.tree tick model shown) ≤ LARGEST_LOCAL

-- There are at most two marks, and so two events, for each model that the script adds: a number below 2^32.
pub record EventsAreFew (script : ScriptLists) (lanes : Lanes) : Type 0 where
  pub two_each : length lanes.compositor.marks ≤ event_room script
  pub fit : length lanes.compositor.marks < 2 ^ 32

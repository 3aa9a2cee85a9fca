-- Timelines: clocks of animations, each of which shows 0 at a tick of its own. All times are in microseconds.
use Rattle.std.specs.Prelude.{ℕ, ◌≤◌, ℤ, pos, ◌-ℤ◌, nat_le, if◌then◌else◌, Option, Some, None}
use Rattle.anim_timeline.specs.declared.TheConstants.{LAST_TIME}

-- what may be the tick of a frame, or the zero of a timeline
abbrev pub IsTime : ℕ → Type 0
IsTime tick = tick ≤ LAST_TIME

-- the timeline that shows 0 at this tick, where there may be one; it is seen as the tick
abbrev pub timeline_of : ℕ → Option ℕ
timeline_of origin = if nat_le origin LAST_TIME then Some origin else None

-- what a timeline shows at a tick, given the tick at which it shows 0; before that it shows less
abbrev pub timeline_time : ℕ → ℕ → ℤ
timeline_time origin tick = pos tick -ℤ pos origin

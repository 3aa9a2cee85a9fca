use Rattle.std.proofs.Common.{◌+◌, ◌-◌, ◌<◌, ◌≤◌}
use Rattle.anim_names.specs.declared.progress.TheConstants.{ONE}
use Rattle.easing_fixed.specs.Cubics.{across, bound}
use Rattle.easing_fixed.proofs.curve.place.Given as goal

abbrev pub invariant-loop-high : goal.invariant-loop-high
invariant-loop-high l =
    (l.low < l.high) × (l.high ≤ ONE + 1) × (across ONE l.x1 l.x2 l.low ≤ bound l.p) × (l.high ≤ ONE → bound l.p < across ONE l.x1 l.x2 l.high)

abbrev pub decreases-loop-high : goal.decreases-loop-high
decreases-loop-high l = l.high - l.low

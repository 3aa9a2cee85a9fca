use Rattle.std.proofs.Common.{◌-◌, ◌<◌, ◌≤◌}
use Rattle.anim_names.specs.declared.progress.TheConstants.{ONE}
use Rattle.easing_fixed.specs.Cubics.{across, bound}
use Rattle.easing_fixed.proofs.search.place_between.Given as goal

-- low and high are a bracket
abbrev pub invariant-loop-high : goal.invariant-loop-high
invariant-loop-high l =
    (l.low < l.high) × (l.high ≤ ONE) × (across ONE l.x1 l.x2 l.low ≤ bound l.p) × (bound l.p < across ONE l.x1 l.x2 l.high) × (l.turns ≤ 6)

abbrev pub decreases-loop-high : goal.decreases-loop-high
decreases-loop-high l = l.high - l.low

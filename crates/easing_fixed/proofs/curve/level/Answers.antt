-- A height is far from the ends of 128 bits, and divided by the unit from those of 64.
use Rattle.std.proofs.Common.{◌≡◌, ◌*◌, ◌≤◌, ℤ, pos, unsigned_abs, arith}
use Rattle.std.specs.Int.{w32, int_div_euclid}
use Rattle.std.proofs.lemmas.Int.{ints, to_z-of_z}
use Rattle.anim_names.specs.declared.progress.TheConstants.{ONE}
use Rattle.easing_fixed.specs.declared.TheConstants.{LARGEST_Y}
use Rattle.easing_fixed.specs.Cubics.{unit}
use Rattle.easing_fixed.proofs.Sizes.{divided-size}
use Rattle.easing_fixed.proofs.curve.level.Goals as goal

level_size : (result height : ℤ) → result ≡ height → unsigned_abs result ≤ ONE * ONE * ONE * LARGEST_Y → unsigned_abs (int_div_euclid height (pos unit)) ≤ 10 * ONE
level_size result height is small = rw (← is) (divided-size result small)

pub height-requires-clause-first : goal.height-requires-clause-first
height-requires-clause-first c = rw (to_z-of_z w32 c.args.y1 c.ranges.y1) c.requires.first

pub height-requires-clause-second : goal.height-requires-clause-second
height-requires-clause-second c = rw (to_z-of_z w32 c.args.y2 c.ranges.y2) c.requires.second

pub overflow_cast-height : goal.overflow_cast-height
overflow_cast-height c = grind (arith, ints)

pub returns-clause-value : goal.returns-clause-value
returns-clause-value c = grind (arith, ints, to_z-of_z)

pub returns-clause-size : goal.returns-clause-size
returns-clause-size c =
    let exact = rw (to_z-of_z w32 c.args.y1 c.ranges.y1, to_z-of_z w32 c.args.y2 c.ranges.y2) at c.height.ensures.value in
    rw (returns-clause-value c) (level_size c.height.result _ exact c.height.ensures.size)

-- A product that is as small as its factors allow is, divided by ONE, far from the ends of 64 bits.
use Rattle.std.proofs.Common.{◌+◌, ◌*◌, ◌≤◌, ℤ, pos, negsuc, ◌*ℤ◌, unsigned_abs, arith}
use Rattle.std.proofs.Math.Nat.{mul-le-mul}
use Rattle.std.proofs.lemmas.Int.{ints, to_z-of_z, unsigned_abs-mul}
use Rattle.anim_names.specs.declared.progress.TheConstants.{ONE}
use Rattle.value_blend.specs.declared.TheConstants.{LARGEST_NUMBER, LARGEST_PROGRESS}
use Rattle.value_blend.specs.Fixed.{floor_div}
use Rattle.value_blend.proofs.number.covered.Goals as goal

divided : (z : ℤ) → unsigned_abs z ≤ 2 * LARGEST_NUMBER * LARGEST_PROGRESS → unsigned_abs (floor_div z ONE) ≤ 32 * LARGEST_NUMBER + 1
divided (pos n) small = omega arith
divided (negsuc n) small = omega arith

pub overflow_cast-result : goal.overflow_cast-result
overflow_cast-result c = grind (arith, ints)

pub returns-clause-value : goal.returns-clause-value
returns-clause-value c = grind (arith, ints, to_z-of_z)

pub returns-clause-size : goal.returns-clause-size
returns-clause-size c =
    rw (returns-clause-value c) (divided (c.args.distance *ℤ c.args.progress) (rw unsigned_abs-mul (mul-le-mul c.requires.distance_within c.requires.progress_within)))

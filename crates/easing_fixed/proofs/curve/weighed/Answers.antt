-- The factors are the same at 128 bits, and small enough for their product to fit there.
use Rattle.std.proofs.Common.{◌≡◌, ℕ, ◌^◌, ◌<◌, ◌≤◌, ℤ, pos, ◌*ℤ◌, unsigned_abs, to_z, of_z, w32, FitsSigned, arith}
use Rattle.std.specs.Int.{w128}
use Rattle.std.proofs.Math.Nat.{mul-le-mul_left}
use Rattle.std.proofs.lemmas.Int.{to_z-of_z, unsigned_abs-mul, fits_signed_mul, ints}
use Rattle.easing_fixed.specs.declared.TheConstants.{LARGEST_Y}
use Rattle.easing_fixed.proofs.curve.weighed.Goals as goal

widened_weight : (weight : ℕ) (wide : ℤ) → weight < 2 ^ 64 → wide ≡ pos weight → to_z w128 (of_z w128 wide) ≡ pos weight
widened_weight weight wide fits is = omega (arith, ints)

widened : (y wide : ℤ) → FitsSigned w32 y → wide ≡ to_z w32 (of_z w32 y) → to_z w128 (of_z w128 wide) ≡ y
widened y wide fits is = omega (arith, ints)

product_fits : (weight : ℕ) (y : ℤ) → weight ≤ 2 ^ 64 → unsigned_abs y ≤ LARGEST_Y → FitsSigned w128 (pos weight *ℤ y)
product_fits weight y weight_within y_within = fits_signed_mul w128 (pos weight) y (2 ^ 64) LARGEST_Y weight_within y_within (omega arith)

pub overflow_mul-result : goal.overflow_mul-result
overflow_mul-result c =
    rw (widened_weight c.args.weight c.from.result (omega arith) c.from.ensures, widened c.args.y c.from-2.result c.ranges.y c.from-2.ensures)
    (product_fits c.args.weight c.args.y (omega arith) c.requires)

pub returns-clause-value : goal.returns-clause-value
returns-clause-value c =
    rw (widened_weight c.args.weight c.from.result (omega arith) c.from.ensures, widened c.args.y c.from-2.result c.ranges.y c.from-2.ensures)
    (to_z-of_z w128 _ (product_fits c.args.weight c.args.y (omega arith) c.requires))

pub returns-clause-size : goal.returns-clause-size
returns-clause-size c = rw (returns-clause-value c, unsigned_abs-mul) (mul-le-mul_left c.args.weight c.requires)

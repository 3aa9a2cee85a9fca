-- The factors are the same at 128 bits, and small enough for their product to fit there.
use Rattle.std.proofs.Common.{◌≡◌, ◌*◌, ◌≤◌, ℤ, ◌*ℤ◌, unsigned_abs, to_z, of_z, w64, FitsSigned, arith}
use Rattle.std.specs.Int.{w128}
use Rattle.std.proofs.Math.Nat.{mul-le-mul}
use Rattle.std.proofs.lemmas.Int.{to_z-of_z, fits_signed_mul, unsigned_abs-mul, ints}
use Rattle.value_blend.specs.declared.TheConstants.{LARGEST_NUMBER, LARGEST_PROGRESS}
use Rattle.value_blend.proofs.number.product.Goals as goal

widened : (x wide : ℤ) → FitsSigned w64 x → wide ≡ to_z w64 (of_z w64 x) → to_z w128 (of_z w128 wide) ≡ x
widened x wide fits is = omega (arith, ints)

product_fits : (x y : ℤ) → unsigned_abs x ≤ 2 * LARGEST_NUMBER → unsigned_abs y ≤ LARGEST_PROGRESS → FitsSigned w128 (x *ℤ y)
product_fits x y x_within y_within = fits_signed_mul w128 x y (2 * LARGEST_NUMBER) LARGEST_PROGRESS x_within y_within (omega arith)

pub overflow_mul-result : goal.overflow_mul-result
overflow_mul-result c =
    rw (widened c.args.distance c.from.result c.ranges.distance c.from.ensures, widened c.args.progress c.from-2.result c.ranges.progress c.from-2.ensures)
    (product_fits c.args.distance c.args.progress c.requires.distance_within c.requires.progress_within)

pub returns-clause-value : goal.returns-clause-value
returns-clause-value c =
    rw (widened c.args.distance c.from.result c.ranges.distance c.from.ensures, widened c.args.progress c.from-2.result c.ranges.progress c.from-2.ensures)
    (to_z-of_z w128 _ (product_fits c.args.distance c.args.progress c.requires.distance_within c.requires.progress_within))

pub returns-clause-size : goal.returns-clause-size
returns-clause-size c = rw (returns-clause-value c, unsigned_abs-mul) (mul-le-mul c.requires.distance_within c.requires.progress_within)

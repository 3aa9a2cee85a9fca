-- The three parts of the height are far from the ends of 128 bits, so nothing is lost where they are added.
use Rattle.std.proofs.Common.{◌≡◌, ℕ, ◌+◌, ◌*◌, ◌^◌, ◌≤◌, ℤ, ◌+ℤ◌, unsigned_abs, to_z, of_z, ◌∙◌, refl, FitsSigned, arith}
use Rattle.std.specs.Int.{w32, w128}
use Rattle.std.proofs.lemmas.Int.{ints, to_z-of_z}
use Rattle.anim_names.specs.declared.progress.TheConstants.{ONE}
use Rattle.easing_fixed.specs.declared.TheConstants.{LARGEST_Y}
use Rattle.easing_fixed.proofs.Rising.{weights_le}
use Rattle.easing_fixed.proofs.curve.height.Goals as goal

part_size : (weight : ℕ) (part : ℤ) → weight ≤ 3 * ONE * ONE * ONE → unsigned_abs part ≤ weight * LARGEST_Y → unsigned_abs part ≤ 2 ^ 100
part_size weight part weight_within part_within = omega arith

sum_of_two_fits : (a b : ℤ) → unsigned_abs a ≤ 2 ^ 100 → unsigned_abs b ≤ 2 ^ 100 → FitsSigned w128 (to_z w128 (of_z w128 a) +ℤ to_z w128 (of_z w128 b))
sum_of_two_fits a b p q = omega (arith, ints)

sum_of_three_fits : (a b e : ℤ) → unsigned_abs a ≤ 2 ^ 100 → unsigned_abs b ≤ 2 ^ 100 → unsigned_abs e ≤ 2 ^ 100 → FitsSigned w128 (to_z w128 (of_z w128 (to_z w128 (of_z w128 a) +ℤ to_z w128 (of_z w128 b))) +ℤ to_z w128 (of_z w128 e))
sum_of_three_fits a b e p q r = omega (arith, ints)

sum_of_three : (a b e : ℤ) → unsigned_abs a ≤ 2 ^ 100 → unsigned_abs b ≤ 2 ^ 100 → unsigned_abs e ≤ 2 ^ 100 → to_z w128 (of_z w128 (to_z w128 (of_z w128 (to_z w128 (of_z w128 a) +ℤ to_z w128 (of_z w128 b))) +ℤ to_z w128 (of_z w128 e))) ≡ a +ℤ b +ℤ e
sum_of_three a b e p q r = omega (arith, ints)

sum_size : (f g h : ℕ) (a b e : ℤ) → f + g + h ≤ ONE * ONE * ONE → unsigned_abs a ≤ f * LARGEST_Y → unsigned_abs b ≤ g * LARGEST_Y → unsigned_abs e ≤ h * LARGEST_Y → unsigned_abs (a +ℤ b +ℤ e) ≤ ONE * ONE * ONE * LARGEST_Y
sum_size f g h a b e weights p q r = omega (arith, ints)

pub weighed-requires : goal.weighed-requires
weighed-requires c = rw (to_z-of_z w32 c.args.y1 c.ranges.y1) c.requires.first

pub weighed-requires-2 : goal.weighed-requires-2
weighed-requires-2 c = rw (to_z-of_z w32 c.args.y2 c.ranges.y2) c.requires.second

pub overflow_add-result : goal.overflow_add-result
overflow_add-result c =
    sum_of_two_fits c.weighed.result c.weighed-2.result
    (part_size c.first_weight.result c.weighed.result c.first_weight.ensures.size c.weighed.ensures.size)
    (part_size c.second_weight.result c.weighed-2.result c.second_weight.ensures.size c.weighed-2.ensures.size)

pub overflow_add-result-2 : goal.overflow_add-result-2
overflow_add-result-2 c =
    sum_of_three_fits c.weighed.result c.weighed-2.result c.weighed-3.result
    (part_size c.first_weight.result c.weighed.result c.first_weight.ensures.size c.weighed.ensures.size)
    (part_size c.second_weight.result c.weighed-2.result c.second_weight.ensures.size c.weighed-2.ensures.size)
    (part_size c.end_weight.result c.weighed-3.result (omega (arith, c.end_weight.ensures.size)) c.weighed-3.ensures.size)

-- the value, of the three parts
sum : (c : goal.After-weighed-3) → to_z w128 (of_z w128 (to_z w128 (of_z w128 (to_z w128 (of_z w128 c.weighed.result) +ℤ to_z w128 (of_z w128 c.weighed-2.result))) +ℤ to_z w128 (of_z w128 c.weighed-3.result))) ≡ c.weighed.result +ℤ c.weighed-2.result +ℤ c.weighed-3.result
sum c =
    sum_of_three c.weighed.result c.weighed-2.result c.weighed-3.result
    (part_size c.first_weight.result c.weighed.result c.first_weight.ensures.size c.weighed.ensures.size)
    (part_size c.second_weight.result c.weighed-2.result c.second_weight.ensures.size c.weighed-2.ensures.size)
    (part_size c.end_weight.result c.weighed-3.result (omega (arith, c.end_weight.ensures.size)) c.weighed-3.ensures.size)

pub returns-clause-value : goal.returns-clause-value
returns-clause-value c =
    sum c ∙ rw (c.weighed.ensures.value, c.weighed-2.ensures.value, c.weighed-3.ensures.value, c.first_weight.ensures.value, c.second_weight.ensures.value, c.end_weight.ensures.value, to_z-of_z w32 c.args.y1 c.ranges.y1, to_z-of_z w32 c.args.y2 c.ranges.y2) refl

pub returns-clause-size : goal.returns-clause-size
returns-clause-size c =
    let weights : c.first_weight.result + c.second_weight.result + c.end_weight.result ≤ ONE * ONE * ONE =
    rw (c.first_weight.ensures.value, c.second_weight.ensures.value, c.end_weight.ensures.value) (weights_le ONE c.args.s c.requires.step) in
    rw (sum c) (sum_size c.first_weight.result c.second_weight.result c.end_weight.result c.weighed.result c.weighed-2.result c.weighed-3.result weights c.weighed.ensures.size c.weighed-2.ensures.size c.weighed-3.ensures.size)

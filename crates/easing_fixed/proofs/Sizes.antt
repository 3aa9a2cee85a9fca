-- What an easing gives leaves the range of the progress by no more than ten times that.
use Rattle.std.proofs.Common.{◌≡◌, ℕ, ◌+◌, ◌*◌, ◌/◌, ◌≤◌, ℤ, pos, negsuc, ◌+ℤ◌, ◌*ℤ◌, unsigned_abs, Bool, true, false, not, ◌&&◌, if◌then◌else◌, Some, None, min, refl, arith}
use Rattle.std.specs.Int.{int_div_euclid}
use Rattle.std.proofs.Math.Nat.{mul-le-mul_left, div-le_of_le-mul}
use Rattle.std.proofs.lemmas.Bool.Decides.{nat_tests}
use Rattle.std.proofs.lemmas.Int.{ints, unsigned_abs-mul}
use Rattle.std.proofs.lemmas.Bool.{and_parts}
use Rattle.anim_names.specs.declared.progress.TheConstants.{ONE}
use Rattle.easing_fixed.specs.declared.TheConstants.{END, LARGEST_Y}
use Rattle.easing_fixed.specs.declared.easing.Easing.{Easing}
use Rattle.easing_fixed.specs.declared.easing.Easing.TheVariants.{Linear, Steps, Cubic}
use Rattle.easing_fixed.specs.declared.fault.EasingFault.TheVariants.{XOutOfRange, YOutOfRange}
use Rattle.easing_fixed.specs.Steps.{StepParts, first_jumps, jumps, step_value}
use Rattle.easing_fixed.specs.Cubics.{CubicParts, is_x, is_y, IsCubic, first_weight, second_weight, end_weight, height, place, unit, cubic_value}
use Rattle.easing_fixed.specs.Easings.{IsEasing, eased}
use Rattle.easing_fixed.proofs.Rising.{weights_le}
use Rattle.easing_fixed.proofs.Places.{place-IsPlace}

-- ---- the height

weighed-size : (weight : ℕ) (y : ℤ) → unsigned_abs y ≤ LARGEST_Y → unsigned_abs (pos weight *ℤ y) ≤ weight * LARGEST_Y
weighed-size weight y size = rw unsigned_abs-mul (mul-le-mul_left weight size)

sum-size : (a b : ℤ) (e f g h : ℕ) → unsigned_abs a ≤ f → unsigned_abs b ≤ g → e ≤ h → unsigned_abs (a +ℤ b +ℤ pos e) ≤ f + g + h
sum-size a b e f g h p q r = omega (arith, ints)

heights : (f g e whole : ℕ) (y1 y2 : ℤ) → unsigned_abs y1 ≤ LARGEST_Y → unsigned_abs y2 ≤ LARGEST_Y → f + g + e ≤ whole →
    unsigned_abs (pos f *ℤ y1 +ℤ pos g *ℤ y2 +ℤ pos (e * END)) ≤ whole * LARGEST_Y
heights f g e whole y1 y2 p q within =
    let sum = sum-size (pos f *ℤ y1) (pos g *ℤ y2) (e * END) (f * LARGEST_Y) (g * LARGEST_Y) (e * LARGEST_Y) (weighed-size f y1 p) (weighed-size g y2 q) (omega arith) in
    omega arith

-- ---- the value

-- a sum of weights, divided
pub divided-size : (z : ℤ) → unsigned_abs z ≤ ONE * ONE * ONE * LARGEST_Y → unsigned_abs (int_div_euclid z (pos unit)) ≤ 10 * ONE
divided-size (pos a) size = omega arith
divided-size (negsuc a) size = omega arith

y_size : (y : ℤ) → is_y y ≡ true → unsigned_abs y ≤ LARGEST_Y
y_size y is = grind (arith, nat_tests)

x_size : (x : ℤ) → is_x x ≡ true → unsigned_abs x ≤ END
x_size (pos n) is = grind (arith, nat_tests)
x_size (negsuc n) is = absurd (cc)

in_range : (xs ys : Bool) → (if not xs then Some XOutOfRange else if not ys then Some YOutOfRange else None) ≡ None → (xs ≡ true) × (ys ≡ true)
in_range false ys none = absurd (cc)
in_range true false none = absurd (cc)
in_range true true none = (refl, refl)

pub IsCubic-sizes : (c : CubicParts) → IsCubic c →
    (unsigned_abs c.x1 ≤ END) × (unsigned_abs c.x2 ≤ END) × (unsigned_abs c.y1 ≤ LARGEST_Y) × (unsigned_abs c.y2 ≤ LARGEST_Y)
IsCubic-sizes c is =
    let ranges = in_range (is_x c.x1 && is_x c.x2) (is_y c.y1 && is_y c.y2) is in
    let xs = and_parts (is_x c.x1) (is_x c.x2) ranges.0 in
    let ys = and_parts (is_y c.y1) (is_y c.y2) ranges.1 in
    (x_size c.x1 xs.0, x_size c.x2 xs.1, y_size c.y1 ys.0, y_size c.y2 ys.1)

pub cubic_value-size : (c : CubicParts) (p : ℕ) → IsCubic c → unsigned_abs (cubic_value c p) ≤ 10 * ONE
unfolding cubic_value
cubic_value-size c p is =
    let sizes = IsCubic-sizes c is in
    let s : ℕ = place (unsigned_abs c.x1) (unsigned_abs c.x2) p in
    let on = place-IsPlace (unsigned_abs c.x1) (unsigned_abs c.x2) p sizes.0 sizes.1 in
    divided-size (height ONE c.y1 c.y2 s)
    (heights (first_weight ONE s) (second_weight ONE s) (end_weight s) (ONE * ONE * ONE) c.y1 c.y2 sizes.2 sizes.3 (weights_le ONE s on.within))

-- ---- steps

share-size : (a j : ℕ) → min a j * ONE / j ≤ ONE
share-size a j =
    let least : min a j ≤ j = omega arith in
    div-le_of_le-mul j (omega arith)

pub step_value-size : (s : StepParts) (p : ℕ) → step_value s p ≤ ONE
unfolding step_value
step_value-size s p = share-size (p * s.count / ONE + first_jumps s.position) (jumps s)

-- ---- any easing

pub eased-size : (easing : Easing) (p : ℕ) → IsEasing easing → p ≤ ONE → unsigned_abs (eased easing p) ≤ 10 * ONE
unfolding eased
eased-size Linear p is within = omega arith
eased-size (Steps s) p is within = omega (arith, step_value-size s p)
eased-size (Cubic c) p is within = cubic_value-size c p is

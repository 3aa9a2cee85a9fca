-- How far across a curve is rises strictly with the parameter.
use Rattle.std.proofs.Common.{◌≡◌, ℕ, ◌+◌, ◌-◌, ◌*◌, ◌<◌, ◌≤◌, inl, inr, subst, arith}
use Rattle.std.proofs.lemmas.Bool.{cases_lt}
use Rattle.std.proofs.Math.Nat.{mul-pos}
use Rattle.easing_fixed.specs.declared.TheConstants.{END}
use Rattle.easing_fixed.specs.Cubics.{first_weight, second_weight, end_weight, across}

-- the curve by the two distances from its ends
abbrev across_by : ℕ → ℕ → ℕ → ℕ → ℕ → ℕ
across_by u s x1 x2 m = 3 * u * u * s * x1 + 3 * u * s * s * x2 + s * s * s * m

-- the square of a difference is not negative
square_above : (r k d : ℕ) → 2 * ((r + k) * r * d) ≤ (r + k) * (r + k) * d + r * r * d
square_above r k d = omega arith

square_below : (a k d : ℕ) → 2 * (a * (a + k) * d) ≤ a * a * d + (a + k) * (a + k) * d
square_below a k d = omega arith

square-of_difference : (a r d : ℕ) → 2 * (a * r * d) ≤ a * a * d + r * r * d
square-of_difference a r d = elim (cases_lt r a) [
  | inl h ↦ let e : r + (a - r) ≡ a = omega arith in subst (λ x. 2 * (x * r * d) ≤ x * x * d + r * r * d) e (square_above r (a - r) d)
  | inr h ↦ let e : a + (r - a) ≡ r = omega arith in subst (λ x. 2 * (a * x * d) ≤ a * a * d + x * x * d) e (square_below a (r - a) d)
]

-- where the second control point is not behind the first
rises_ahead : (a r d x e f : ℕ) → across_by (a + d) r x (x + e) (x + e + f) + d * d * d * (x + e + f) ≤ across_by a (r + d) x (x + e) (x + e + f)
rises_ahead a r d x e f = omega arith

-- where it is
rises_behind : (a r d x e f : ℕ) → across_by (a + d) r (x + e) x (x + e + f) + d * d * d * (x + e + f) ≤ across_by a (r + d) (x + e) x (x + e + f)
rises_behind a r d x e f = omega (arith, square-of_difference a r (d * e))

across_by-rises : (a r d x1 x2 m : ℕ) → x1 ≤ m → x2 ≤ m → across_by (a + d) r x1 x2 m + d * d * d * m ≤ across_by a (r + d) x1 x2 m
across_by-rises a r d x1 x2 m p q = elim (cases_lt x2 x1) [
  | inl h ↦
      let e : x2 + (x1 - x2) ≡ x1 = omega arith in
      let f : x2 + (x1 - x2) + (m - x1) ≡ m = omega arith in
      subst (λ z. across_by (a + d) r x1 x2 z + d * d * d * z ≤ across_by a (r + d) x1 x2 z) f
      (subst (λ y. across_by (a + d) r y x2 (x2 + (x1 - x2) + (m - x1)) + d * d * d * (x2 + (x1 - x2) + (m - x1)) ≤ across_by a (r + d) y x2 (x2 + (x1 - x2) + (m - x1))) e
      (rises_behind a r d x2 (x1 - x2) (m - x1)))
  | inr h ↦
      let e : x1 + (x2 - x1) ≡ x2 = omega arith in
      let f : x1 + (x2 - x1) + (m - x2) ≡ m = omega arith in
      subst (λ z. across_by (a + d) r x1 x2 z + d * d * d * z ≤ across_by a (r + d) x1 x2 z) f
      (subst (λ y. across_by (a + d) r x1 y (x1 + (x2 - x1) + (m - x2)) + d * d * d * (x1 + (x2 - x1) + (m - x2)) ≤ across_by a (r + d) x1 y (x1 + (x2 - x1) + (m - x2))) e
      (rises_ahead a r d x1 (x2 - x1) (m - x2)))
]

-- the curve rises by the cube of the distance at least
across-rises_by : (n x1 x2 r d : ℕ) → x1 ≤ END → x2 ≤ END → r + d ≤ n → across n x1 x2 r + d * d * d * END ≤ across n x1 x2 (r + d)
across-rises_by n x1 x2 r d p q h =
    let u : (n - (r + d)) + d ≡ n - r = omega arith in
    subst (λ y. across_by y r x1 x2 END + d * d * d * END ≤ across n x1 x2 (r + d)) u (across_by-rises (n - (r + d)) r d x1 x2 END p q)

pub across-rises : (n x1 x2 r s : ℕ) → x1 ≤ END → x2 ≤ END → r < s → s ≤ n → across n x1 x2 r < across n x1 x2 s
across-rises n x1 x2 r s p q less fits =
    let d : ℕ = s - r in
    let e : r + d ≡ s = omega arith in
    let some : 0 < d = omega arith in
    let cube : 0 < d * d * d = mul-pos (mul-pos some some) some in
    subst (λ y. across n x1 x2 r < across n x1 x2 y) e (omega (arith, across-rises_by n x1 x2 r d p q (omega arith), cube))

pub across-rises_weakly : (n x1 x2 r s : ℕ) → x1 ≤ END → x2 ≤ END → r ≤ s → s ≤ n → across n x1 x2 r ≤ across n x1 x2 s
across-rises_weakly n x1 x2 r s p q no_more fits =
    let e : r + (s - r) ≡ s = omega arith in
    subst (λ y. across n x1 x2 r ≤ across n x1 x2 y) e (omega (arith, across-rises_by n x1 x2 r (s - r) p q (omega arith)))

-- ---- a finer parameter

scaled_by : (k u s x1 x2 m : ℕ) → across_by (k * u) (k * s) x1 x2 m ≡ k * k * k * across_by u s x1 x2 m
scaled_by k u s x1 x2 m = omega arith

-- with k times as many steps along the curve, k times the parameter is the same point
pub across-scaled : (k n x1 x2 s : ℕ) → s ≤ n → across (k * n) x1 x2 (k * s) ≡ k * k * k * across n x1 x2 s
across-scaled k n x1 x2 s h =
    let e : (n - s) + s ≡ n = omega arith in
    let products : k * (n - s) + k * s ≡ k * n = subst (λ y. k * (n - s) + k * s ≡ k * y) e (omega arith) in
    let u : k * (n - s) ≡ k * n - k * s = omega arith in
    subst (λ y. across_by y (k * s) x1 x2 END ≡ k * k * k * across n x1 x2 s) u (scaled_by k (n - s) s x1 x2 END)

-- ---- the weights

weights_of : (u s : ℕ) → 3 * u * u * s + 3 * u * s * s + s * s * s ≤ (u + s) * (u + s) * (u + s)
weights_of u s = omega arith

pub weights_le : (n s : ℕ) → s ≤ n → first_weight n s + second_weight n s + end_weight s ≤ n * n * n
weights_le n s h =
    let e : (n - s) + s ≡ n = omega arith in
    subst (λ y. first_weight n s + second_weight n s + end_weight s ≤ y * y * y) e (weights_of (n - s) s)

-- The place is the one greatest parameter that is not past the progress, and it brackets the exact root.
use Rattle.std.proofs.Common.{ℤ, pos, unsigned_abs, ◌≡◌, ℕ, zero, suc, ◌+◌, ◌*◌, ◌^◌, ◌<◌, ◌≤◌, Bool, true, false, cond, inl, inr, ◌∙◌, subst, refl, arith}
use Rattle.std.proofs.Math.Nat.{pow-suc, mul-le-mul_left, mul-lt-mul_of_pos_left, mul-pos}
use Rattle.std.proofs.Math.IntN.{zero-*ℤ}
use Rattle.std.specs.Int.{int_div_euclid}
use Rattle.std.proofs.lemmas.Bool.{cases_lt}
use Rattle.std.proofs.lemmas.Bool.Decides.{nat_tests}
use Rattle.anim_names.specs.declared.progress.TheConstants.{ONE}
use Rattle.easing_fixed.specs.declared.TheConstants.{END}
use Rattle.easing_fixed.specs.Cubics.{CubicParts, cubic_value, height, across, bound, IsPlace, is_not_past, greatest_from, place}
use Rattle.easing_fixed.proofs.Rising.{across-rises, across-rises_weakly, across-scaled}

-- ---- the number that is built bit by bit

-- it passes, and nothing greater does
record IsGreatest (test : ℕ → Bool) (number : ℕ) : Type 0 where
  passes : test number ≡ true
  greatest : (r : ℕ) → test r ≡ true → r ≤ number

greatest_from-IsGreatest : (test : ℕ → Bool) (bits number : ℕ) → ((s r : ℕ) → r ≤ s → test s ≡ true → test r ≡ true) → test number ≡ true → ((r : ℕ) → test r ≡ true → r < number + 2 ^ bits) → IsGreatest test (greatest_from test bits number)
greatest_from-IsGreatest test zero number closed here below = record { passes = here; greatest = λ r t. omega (arith, below r t) }
greatest_from-IsGreatest test (suc bits) number closed here below =
    elim (test (number + 2 ^ bits)) as (λ b. test (number + 2 ^ bits) ≡ b → IsGreatest test (greatest_from test bits (cond b (number + 2 ^ bits) number))) [
      | true ↦ λ e. greatest_from-IsGreatest test bits (number + 2 ^ bits) closed e (λ r t. omega (arith, below r t, pow-suc 2 bits))
      | false ↦ λ e. greatest_from-IsGreatest test bits number closed here (λ r t. elim (cases_lt r (number + 2 ^ bits)) [
        | inl h ↦ h
        | inr h ↦ let passed : test (number + 2 ^ bits) ≡ true = closed r (number + 2 ^ bits) h t in cc
      ])
    ] refl

-- ---- the place

is_not_past-parts : (x1 x2 p s : ℕ) → is_not_past x1 x2 p s ≡ true → (s ≤ ONE) × (across ONE x1 x2 s ≤ bound p)
is_not_past-parts x1 x2 p s h = grind (arith, nat_tests)

is_not_past-passes : (x1 x2 p s : ℕ) → s ≤ ONE → across ONE x1 x2 s ≤ bound p → is_not_past x1 x2 p s ≡ true
is_not_past-passes x1 x2 p s within not_past = grind (arith, nat_tests)

pub place-IsPlace : (x1 x2 p : ℕ) → x1 ≤ END → x2 ≤ END → IsPlace x1 x2 p (place x1 x2 p)
unfolding place
place-IsPlace x1 x2 p p1 p2 =
    let closed = λ (s : ℕ) (r : ℕ) (h : r ≤ s) (t : is_not_past x1 x2 p s ≡ true).
    let parts = is_not_past-parts x1 x2 p s t in
    let rises = across-rises_weakly ONE x1 x2 r s p1 p2 h parts.0 in
    is_not_past-passes x1 x2 p r (omega (arith, parts.0)) (omega (arith, rises, parts.1)) in
    let g = greatest_from-IsGreatest (is_not_past x1 x2 p) 21 0 closed (is_not_past-passes x1 x2 p 0 (omega arith) (omega arith)) (λ r t. omega (arith, (is_not_past-parts x1 x2 p r t).0)) in
    let here = is_not_past-parts x1 x2 p (greatest_from (is_not_past x1 x2 p) 21 0) g.passes in
    record { within = here.0; not_past = here.1; greatest = λ r h t. g.greatest r (is_not_past-passes x1 x2 p r h t) }

-- there is one place
pub IsPlace-place : (x1 x2 p s : ℕ) → x1 ≤ END → x2 ≤ END → IsPlace x1 x2 p s → s ≡ place x1 x2 p
IsPlace-place x1 x2 p s p1 p2 h =
    let k = place-IsPlace x1 x2 p p1 p2 in
    omega (arith, h.greatest (place x1 x2 p) k.within k.not_past, k.greatest s h.within h.not_past)

-- ---- the bracket

scaled_root : (x p q : ℕ) → x * ONE ≡ p * (q * END) → ONE * ONE * ONE * x ≡ q * bound p
scaled_root x p q h = omega arith

not_less : (l r q x y : ℕ) → l ≡ q * y → r ≡ q * x → x ≤ y → l < r → ⊥
not_less l r q x y l_is r_is h less = omega (arith, mul-le-mul_left q h)

not_above : (l r q x y : ℕ) → l ≡ q * y → r ≡ q * x → y < x → 0 < q → r ≤ l → ⊥
not_above l r q x y l_is r_is h some above = omega (arith, mul-lt-mul_of_pos_left {m = y} {n = x} {k = q} h some)

module _ (x1 x2 p a b : ℕ) (p1 : x1 ≤ END) (p2 : x2 ≤ END) (inside : a ≤ b) (root : across b x1 x2 a * ONE ≡ p * (b * b * b * END)) where
  -- how far across the curve is at the root, with b * ONE steps along it
  across-root : across (b * ONE) x1 x2 (ONE * a) ≡ b * b * b * bound p
  across-root =
      let e : ONE * b ≡ b * ONE = omega arith in
      subst (λ n. across n x1 x2 (ONE * a) ≡ b * b * b * bound p) e
      (across-scaled ONE b x1 x2 a inside ∙ scaled_root (across b x1 x2 a) p (b * b * b) root)

  not_past_root : (s : ℕ) → s ≤ ONE → across ONE x1 x2 s ≤ bound p → b * s ≤ ONE * a
  not_past_root s within not_past = elim (cases_lt (ONE * a) (b * s)) [
    | inl h ↦ absurd (not_less _ _ (b * b * b) _ _ across-root (across-scaled b ONE x1 x2 s within) not_past
        (across-rises (b * ONE) x1 x2 (ONE * a) (b * s) p1 p2 h (mul-le-mul_left b within)))
    | inr h ↦ h
  ]

  past_root : (s : ℕ) → s ≤ ONE → bound p < across ONE x1 x2 s → 0 < b → ONE * a < b * s
  past_root s within past some = elim (cases_lt (ONE * a) (b * s)) [
    | inl h ↦ h
    | inr h ↦ absurd (not_above _ _ (b * b * b) _ _ across-root (across-scaled b ONE x1 x2 s within) past (mul-pos (mul-pos some some) some)
        (across-rises_weakly (b * ONE) x1 x2 (b * s) (ONE * a) p1 p2 h (omega arith)))
  ]

  past_all : 0 < b → ONE * a < b * (ONE + 1)
  past_all some = omega arith

  pub place-brackets : 0 < b → (place x1 x2 p * b ≤ ONE * a) × (ONE * a < (place x1 x2 p + 1) * b)
  place-brackets some =
      let k = place-IsPlace x1 x2 p p1 p2 in
      let s : ℕ = place x1 x2 p in
      let low : b * s ≤ ONE * a = not_past_root s k.within k.not_past in
      let high : ONE * a < b * (s + 1) = elim (cases_lt s ONE) [
        | inl h ↦ past_root (s + 1) (omega arith) (elim (cases_lt (bound p) (across ONE x1 x2 (s + 1))) [
          | inl past ↦ past
          | inr not_past ↦ absurd (omega (arith, k.greatest (s + 1) (omega arith) not_past))
        ]) some
        | inr h ↦ let e : ONE ≡ s = omega (arith, k.within) in subst (λ n. ONE * a < b * (n + 1)) e (past_all some)
      ] in
      (omega (arith, low), omega (arith, high))

-- ---- the bisection

-- where the gap between a step that is not past p and one that is has closed, the first is the place
pub place-from_gap : (x1 x2 p low high : ℕ) → x1 ≤ END → x2 ≤ END → low < high → high ≤ low + 1 → high ≤ ONE + 1 → across ONE x1 x2 low ≤ bound p → (high ≤ ONE → bound p < across ONE x1 x2 high) → low ≡ place x1 x2 p
place-from_gap x1 x2 p low high p1 p2 less gap fits not_past past =
    IsPlace-place x1 x2 p low p1 p2 (record {
      within = omega arith;
      not_past = not_past;
      greatest = λ r within t. elim (cases_lt low r) [
        | inl h ↦ absurd (omega (arith, past (omega arith), across-rises_weakly ONE x1 x2 high r p1 p2 (omega arith) within))
        | inr h ↦ h
      ];
    })

-- ---- the ends

place-zero : (x1 x2 : ℕ) → x1 ≤ END → x2 ≤ END → 0 ≡ place x1 x2 0
place-zero x1 x2 p1 p2 = IsPlace-place x1 x2 0 0 p1 p2 (record {
  within = omega arith;
  not_past = omega arith;
  greatest = λ r within t. elim (cases_lt 0 r) [
    | inl h ↦ absurd (omega (arith, across-rises ONE x1 x2 0 r p1 p2 h within, t))
    | inr h ↦ h
  ];
})

pub place-one : (x1 x2 : ℕ) → x1 ≤ END → x2 ≤ END → ONE ≡ place x1 x2 ONE
place-one x1 x2 p1 p2 = IsPlace-place x1 x2 ONE ONE p1 p2 (record {
  within = omega arith;
  not_past = omega arith;
  greatest = λ r within t. within;
})

height-zero : (y1 y2 : ℤ) → height ONE y1 y2 0 ≡ pos 0
height-zero y1 y2 = rw (zero-*ℤ y1, zero-*ℤ y2)

height-one : (y1 y2 : ℤ) → height ONE y1 y2 ONE ≡ pos (ONE * ONE * ONE * END)
height-one y1 y2 = rw (zero-*ℤ y1, zero-*ℤ y2)

pub cubic_value-zero : (c : CubicParts) → unsigned_abs c.x1 ≤ END → unsigned_abs c.x2 ≤ END → cubic_value c 0 ≡ pos 0
unfolding cubic_value
cubic_value-zero c p1 p2 =
    subst (λ s. int_div_euclid (height ONE c.y1 c.y2 s) (pos (ONE * ONE * END)) ≡ pos 0) (place-zero (unsigned_abs c.x1) (unsigned_abs c.x2) p1 p2)
    (rw (height-zero c.y1 c.y2))

pub cubic_value-one : (c : CubicParts) → unsigned_abs c.x1 ≤ END → unsigned_abs c.x2 ≤ END → cubic_value c ONE ≡ pos ONE
unfolding cubic_value
cubic_value-one c p1 p2 =
    subst (λ s. int_div_euclid (height ONE c.y1 c.y2 s) (pos (ONE * ONE * END)) ≡ pos ONE) (place-one (unsigned_abs c.x1) (unsigned_abs c.x2) p1 p2)
    (rw (height-one c.y1 c.y2))

-- Each number of a start table says how far across the curve is there.
use Rattle.std.proofs.Common.{◌≡◌, ℕ, zero, suc, ◌+◌, ◌-◌, ◌*◌, ◌/◌, ◌<◌, ◌≤◌, get_or, ap, ◌∙◌, arith}
use Rattle.std.proofs.Math.Nat.{mul-le-mul_left}
use Rattle.easing_fixed.proofs.Rising.{weights_le}
use Rattle.anim_names.specs.declared.progress.TheConstants.{ONE}
use Rattle.easing_fixed.specs.declared.TheConstants.{END}
use Rattle.easing_fixed.specs.Cubics.{first_weight, second_weight, end_weight, across, bound}
use Rattle.easing_fixed.specs.Starts.{intervals, stride, starts_from, starts_of}

-- ---- a number of the table

starts_from-at : (x1 x2 first count k : ℕ) → k < count → get_or (starts_from x1 x2 first count) k 0 ≡ across intervals x1 x2 (first + k)
starts_from-at x1 x2 first zero k below = absurd (omega arith)
starts_from-at x1 x2 first (suc count) zero below =
    let e : first ≡ first + 0 = omega arith in
    ap (λ j. across intervals x1 x2 j) e
starts_from-at x1 x2 first (suc count) (suc k) below =
    let e : first + 1 + k ≡ first + suc k = omega arith in
    starts_from-at x1 x2 (first + 1) count k (omega arith) ∙ ap (λ j. across intervals x1 x2 j) e

pub starts-at : (x1 x2 k : ℕ) → k ≤ 16 → get_or (starts_of x1 x2) k 0 ≡ across intervals x1 x2 k
starts-at x1 x2 k within =
    let e : 0 + k ≡ k = omega arith in
    starts_from-at x1 x2 0 17 k (omega arith) ∙ ap (λ j. across intervals x1 x2 j) e

weighed-size : (f g e x1 x2 whole : ℕ) → x1 ≤ END → x2 ≤ END → f + g + e ≤ whole → f * x1 + g * x2 + e * END ≤ whole * END
weighed-size f g e x1 x2 whole p q within =
    let first = mul-le-mul_left f p in
    let second = mul-le-mul_left g q in
    omega (arith, first, second)

pub across-intervals-size : (x1 x2 k : ℕ) → x1 ≤ END → x2 ≤ END → k ≤ intervals → across intervals x1 x2 k ≤ intervals * intervals * intervals * END
across-intervals-size x1 x2 k p q within =
    weighed-size (first_weight intervals k) (second_weight intervals k) (end_weight k) x1 x2 (intervals * intervals * intervals) p q (weights_le intervals k within)

-- ---- the same curve in more steps

across_by : ℕ → ℕ → ℕ → ℕ → ℕ → ℕ
across_by x1 x2 end rest s = 3 * rest * rest * s * x1 + 3 * rest * s * s * x2 + s * s * s * end

scaled : (x1 x2 end rest s m : ℕ) → across_by x1 x2 end (rest * m) (s * m) ≡ across_by x1 x2 end rest s * (m * m * m)
unfolding across_by
scaled x1 x2 end rest s m = omega arith

-- at the end of an interval
pub across-stride : (x1 x2 k : ℕ) → k ≤ 16 → across ONE x1 x2 (k * stride) ≡ across intervals x1 x2 k * (stride * stride * stride)
unfolding across_by
across-stride x1 x2 k within =
    let rest : ONE - k * stride ≡ (16 - k) * stride = omega arith in
    let there : across_by x1 x2 END (ONE - k * stride) (k * stride) ≡ across_by x1 x2 END ((16 - k) * stride) (k * stride) = ap (λ r. across_by x1 x2 END r (k * stride)) rest in
    there ∙ scaled x1 x2 END (16 - k) k stride

-- ---- a progress in the table's unit

pub not_past-stride : (x1 x2 p k : ℕ) → k ≤ 16 → across intervals x1 x2 k ≤ p * END / 256 → across ONE x1 x2 (k * stride) ≤ bound p
not_past-stride x1 x2 p k within not_past = rw (across-stride x1 x2 k within) (divided (across intervals x1 x2 k) p not_past)
  where
    divided : (a p : ℕ) → a ≤ p * END / 256 → a * (stride * stride * stride) ≤ bound p
    divided a p h = omega arith

pub past-stride : (x1 x2 p k : ℕ) → k ≤ 16 → p * END / 256 < across intervals x1 x2 k → bound p < across ONE x1 x2 (k * stride)
past-stride x1 x2 p k within past = rw (across-stride x1 x2 k within) (divided (across intervals x1 x2 k) p past)
  where
    divided : (a p : ℕ) → p * END / 256 < a → bound p < a * (stride * stride * stride)
    divided a p h = omega arith

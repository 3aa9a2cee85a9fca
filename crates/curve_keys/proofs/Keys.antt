-- What is true of the keys of a curve.
use Rattle.std.proofs.Common.{◌≡◌, ℕ, zero, suc, ◌-◌, ◌<◌, ◌≤◌, Bool, true, false, not, All, if◌then◌else◌, nat_lt, ◌==◌, ℤ, List, [], ◌∷◌, length, get_or, take, drop, Some, None, refl, inl, inr, subst, ◌+◌, ◌∙◌, arith}
use Rattle.std.proofs.lemmas.Bool.{and_parts, cases_lt}
use Rattle.std.proofs.lemmas.Bool.Decides.{nat_tests}
use Rattle.std.proofs.lemmas.List.{take_all}
use Rattle.micro_time.specs.declared.TheConstants.{LONGEST_DURATION}
use Rattle.curve_keys.specs.declared.fault.CurveFault.TheVariants.{FewKeys, ManyKeys, TimesNotRising, FirstNotZero}
use Rattle.curve_keys.specs.declared.key.Key.{Key}
use Rattle.curve_keys.specs.Curves.{Keyframes, IsKey, is_rising, is_rising_from, begins_at_zero, curve_refusal, IsCurve, last_time, duration_of, value_from, value_at}

-- ---- the last key

pub last_time-at : {V : Type 0} (time : ℕ) (keys : List (Key V)) (n : ℕ) (d : Key V) → suc n ≡ length keys →
    last_time time keys ≡ (get_or keys n d).time
last_time-at time [] n d is = absurd (omega arith)
last_time-at time (key ∷ []) zero d is = refl
last_time-at time (key ∷ []) (suc n) d is = absurd (omega arith)
last_time-at time (key ∷ next ∷ keys) zero d is = absurd (omega arith)
last_time-at time (key ∷ next ∷ keys) (suc n) d is = last_time-at key.time (next ∷ keys) n d (omega arith)

last_time-after : {V : Type 0} (time : ℕ) (keys : List (Key V)) → is_rising_from time keys ≡ true → time ≤ last_time time keys
last_time-after time [] rising = omega arith
last_time-after time (key ∷ keys) rising =
    let parts = and_parts (nat_lt time key.time) (is_rising_from key.time keys) rising in
    let later = last_time-after key.time keys parts.1 in
    let next : time < key.time = grind (arith, nat_tests) in
    omega arith

-- ---- keys of a curve

record IsAccepted {V : Type 0} (keys : List (Key V)) : Type 0 where
  pub some : 2 ≤ length keys
  pub rising : is_rising keys ≡ true
  pub begins : begins_at_zero keys ≡ true

refused-none : (few many rising begins : Bool) →
    (if few then Some FewKeys else if many then Some ManyKeys else if not rising then Some TimesNotRising else
    if not begins then Some FirstNotZero else None) ≡ None → (few ≡ false) × (rising ≡ true) × (begins ≡ true)
refused-none true many rising begins none = absurd (cc)
refused-none false true rising begins none = absurd (cc)
refused-none false false false begins none = absurd (cc)
refused-none false false true false none = absurd (cc)
refused-none false false true true none = (refl, refl, refl)

accepted : {V : Type 0} (keys : List (Key V)) → curve_refusal keys ≡ None → IsAccepted keys
accepted keys none =
    let tests = refused-none (nat_lt (length keys) 2) (nat_lt 16 (length keys)) (is_rising keys) (begins_at_zero keys) none in
    record {
      some = grind (arith, nat_tests);
      rising = tests.1;
      begins = tests.2;
    }

pub IsCurve-some : {V : Type 0} (is_value : V → Type 0) (curve : Keyframes V) → IsCurve is_value curve → 2 ≤ length curve.keys
IsCurve-some is_value curve is = (accepted curve.keys is.taken).some

lasting : {V : Type 0} (keys : List (Key V)) → 2 ≤ length keys → is_rising keys ≡ true → 0 < last_time 0 keys
lasting [] some rising = absurd (omega arith)
lasting (key ∷ []) some rising = absurd (omega arith)
lasting (key ∷ next ∷ keys) some rising =
    let parts = and_parts (nat_lt key.time next.time) (is_rising_from next.time keys) rising in
    let later = last_time-after next.time keys parts.1 in
    let first : key.time < next.time = grind (arith, nat_tests) in
    omega arith

ending : {V : Type 0} (keys : List (Key V)) → 2 ≤ length keys → All (λ (key : Key V). key.time ≤ LONGEST_DURATION) keys → last_time 0 keys ≤ LONGEST_DURATION
ending [] some short = absurd (omega arith)
ending (key ∷ keys) some short =
    let last = last_time-at 0 (key ∷ keys) (length keys) key (omega arith) in
    let within = short (length keys) key (omega arith) in
    omega arith

-- a curve takes some time, and not too much
pub IsCurve-lasts : {V : Type 0} (is_value : V → Type 0) (curve : Keyframes V) → IsCurve is_value curve →
    (0 < duration_of curve) × (duration_of curve ≤ LONGEST_DURATION)
IsCurve-lasts is_value curve is =
    let parts = accepted curve.keys is.taken in
    (lasting curve.keys parts.some parts.rising, ending curve.keys parts.some (λ k d below. (is.each k d below).time))

-- ---- the keys after the first

rest-is : {V : Type 0} (keys : List (Key V)) → 0 < length keys → take (length keys - 1) (drop 1 keys) ≡ drop 1 keys
rest-is [] some = absurd (omega arith)
rest-is (key ∷ keys) some = take_all (length (key ∷ keys) - 1) keys (omega arith)

pub rest-short : {V : Type 0} (is_value : V → Type 0) (keys : List (Key V)) → 0 < length keys → All (IsKey is_value) keys →
    All (λ (key : Key V). key.time ≤ LONGEST_DURATION) (take (length keys - 1) (drop 1 keys))
rest-short is_value [] some each = absurd (omega arith)
rest-short is_value (key ∷ keys) some each = λ k d below.
    let rest = rest-is (key ∷ keys) (omega arith) in
    let within : k < length keys = rw rest at below in
    rw rest (each (suc k) d (omega arith)).time

-- ---- the value

pub value_at-begin : {V : Type 0} (blend : V → V → ℤ → V) (keys : List (Key V)) (time : ℕ) (first : Key V) → 0 < length keys →
    first ≡ get_or keys 0 first → time ≡ 0 → value_at blend keys time ≡ Some first.value
value_at-begin blend [] time first some is begin = absurd (omega arith)
value_at-begin blend (key ∷ keys) time first some is begin = rw (begin, is) refl

pub value_at-later : {V : Type 0} (blend : V → V → ℤ → V) (keys : List (Key V)) (time : ℕ) (first : Key V) → 0 < length keys →
    first ≡ get_or keys 0 first → 0 < time →
    value_at blend keys time ≡ Some (value_from blend first (take (length keys - 1) (drop 1 keys)) time)
value_at-later blend [] time first some is later = absurd (omega arith)
value_at-later blend (key ∷ keys) time first some is later =
    let rest = rest-is (key ∷ keys) some in
    let no : (time == 0) ≡ false = grind (arith, nat_tests) in
    rw (no, rest, is) refl

-- ---- each key

get_or-any : {V : Type 0} (keys : List V) (n : ℕ) (d e : V) → n < length keys → get_or keys n d ≡ get_or keys n e
get_or-any [] n d e below = absurd (omega arith)
get_or-any (key ∷ keys) zero d e below = refl
get_or-any (key ∷ keys) (suc n) d e below = get_or-any keys n d e (omega arith)

-- where the keys before n are so and the n-th is, each up to there is
pub each-more : {V : Type 0} (P : V → Type 0) (keys : List V) (n : ℕ) (key : V) → ((k : ℕ) (d : V) → k < n → P (get_or keys k d)) →
    key ≡ get_or keys n key → n < length keys → P key → (k : ℕ) (d : V) → k < n + 1 → P (get_or keys k d)
each-more P keys n key before is there here k d below = elim (cases_lt k n) [
  | inl less ↦ before k d less
  | inr no_less ↦
      let same : n ≡ k = omega arith in
      subst (λ i. P (get_or keys i d)) same (subst P (is ∙ get_or-any keys n key d there) here)
]

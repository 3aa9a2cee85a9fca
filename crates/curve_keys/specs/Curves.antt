-- Curves: what may be the keys of one, and which value it has at a time. How two values blend is a parameter, since
-- there are curves of opacities and of transforms.
use Rattle.std.specs.Prelude.{◌≡◌, ◌≤◌, All, ℕ, ◌-◌, ◌*◌, ◌/◌, ◌==◌, nat_lt, Bool, true, false, not, ◌&&◌, if◌then◌else◌, ℤ, pos, ◌*ℤ◌, List, [], ◌∷◌, length, Option, Some, None}
use Rattle.micro_time.specs.declared.TheConstants.{LONGEST_DURATION}
use Rattle.anim_names.specs.declared.progress.TheConstants.{ONE}
use Rattle.easing_fixed.specs.declared.easing.Easing.{Easing}
use Rattle.easing_fixed.specs.declared.easing.Easing.TheVariants.{Linear}
use Rattle.easing_fixed.specs.Easings.{IsEasing, eased}
use Rattle.value_blend.specs.Fixed.{floor_div, clamp_to}
use Rattle.curve_keys.specs.declared.TheConstants.{FEWEST_KEYS, MOST_KEYS}
use Rattle.curve_keys.specs.declared.fault.CurveFault.{CurveFault}
use Rattle.curve_keys.specs.declared.fault.CurveFault.TheVariants.{FewKeys, ManyKeys, TimesNotRising, FirstNotZero}
use Rattle.curve_keys.specs.declared.key.Key.{Key}

-- ---- the parts

-- the keys in order of their times, and the easing of the curve as a whole
pub record Keyframes (V : Type 0) : Type 0 where
  pub keys : List (Key V)
  pub easing : Easing

abbrev pub keyframes : {V : Type 0} → List (Key V) → Easing → Keyframes V
keyframes keys easing = record { keys = keys; easing = easing }

-- each key's time is greater than the one before
abbrev pub is_rising_from : {V : Type 0} → ℕ → List (Key V) → Bool
is_rising_from time [] = true
is_rising_from time (key ∷ keys) = nat_lt time key.time && is_rising_from key.time keys

abbrev pub is_rising : {V : Type 0} → List (Key V) → Bool
is_rising [] = true
is_rising (key ∷ keys) = is_rising_from key.time keys

abbrev pub begins_at_zero : {V : Type 0} → List (Key V) → Bool
begins_at_zero [] = false
begins_at_zero (key ∷ keys) = key.time == 0

-- why the keys make no curve
abbrev pub curve_refusal : {V : Type 0} → List (Key V) → Option CurveFault
curve_refusal keys =
    if nat_lt (length keys) FEWEST_KEYS then Some FewKeys else
    if nat_lt MOST_KEYS (length keys) then Some ManyKeys else
    if not (is_rising keys) then Some TimesNotRising else
    if not (begins_at_zero keys) then Some FirstNotZero else
    None

-- what may be a key of a curve, where `is_value` says what may be a value
pub record IsKey {V : Type 0} (is_value : V → Type 0) (key : Key V) : Type 0 where
  pub time : key.time ≤ LONGEST_DURATION
  pub easing : IsEasing key.easing
  pub value : is_value key.value

-- what may be a curve
pub record IsCurve {V : Type 0} (is_value : V → Type 0) (curve : Keyframes V) : Type 0 where
  pub taken : curve_refusal curve.keys ≡ None
  pub each : All (IsKey is_value) curve.keys
  pub easing : IsEasing curve.easing

-- ---- the time

-- the last key's time; before any key it is the time given
abbrev pub last_time : {V : Type 0} → ℕ → List (Key V) → ℕ
last_time time [] = time
last_time time (key ∷ keys) = last_time key.time keys

-- how long the curve is: until its last key
abbrev pub duration_of : {V : Type 0} → Keyframes V → ℕ
duration_of curve = last_time 0 curve.keys

-- The time that the curve's own easing makes of a time: none other where it is linear. An easing that overshoots is
-- held at the curve's ends.
abbrev pub bent_time : Easing → ℕ → ℕ → ℕ
bent_time Linear duration time = time
bent_time easing duration time =
    clamp_to duration (floor_div (eased easing (time * ONE / duration) *ℤ pos duration) ONE)

-- ---- the value

-- how far the time has come from one key to the next
abbrev pub progress_between : {V : Type 0} → Key V → Key V → ℕ → ℕ
progress_between from to time = (time - from.time) * ONE / (to.time - from.time)

-- The value from this key on: up to the next key the two are blended, as this key's easing bends the progress. From
-- the last key on there is its value.
abbrev pub value_from : {V : Type 0} → (V → V → ℤ → V) → Key V → List (Key V) → ℕ → V
value_from blend from [] time = from.value
value_from blend from (to ∷ keys) time =
    if nat_lt time to.time then blend from.value to.value (eased from.easing (progress_between from to time)) else
    value_from blend to keys time

-- At time 0 it is the first key's value, whatever that key's easing is.
abbrev pub value_at : {V : Type 0} → (V → V → ℤ → V) → List (Key V) → ℕ → Option V
value_at blend [] time = None
value_at blend (first ∷ keys) time = Some (if time == 0 then first.value else value_from blend first keys time)

-- The value of a curve at a time up to its duration. Only without keys there is none.
unfoldable pub curve_value : {V : Type 0} → (V → V → ℤ → V) → Keyframes V → ℕ → Option V
curve_value blend curve time = value_at blend curve.keys (bent_time curve.easing (duration_of curve) time)

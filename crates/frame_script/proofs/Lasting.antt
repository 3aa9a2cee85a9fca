-- A timing that lasts as long as a curve, and the keys of a model so far.
use Rattle.std.proofs.Common.{◌≡◌, ℕ, ◌<◌, ◌≤◌, Bool, true, false, cond, ltb, not, List, [], ◌∷◌, ◌++◌, length, length-append, Option, Some, None, Ok, refl, subst, arith}
use Rattle.std.proofs.lemmas.Bool.{and_parts, le-leb, le-ltb}
use Rattle.std.specs.List.{AllByRecursion}
use Rattle.micro_time.specs.declared.TheConstants.{LONGEST_DURATION}
use Rattle.micro_time.specs.declared.fault.TimingFault.{TimingFault}
use Rattle.micro_time.specs.Timings.{TimingParts, IsTiming, is_duration}
use Rattle.curve_keys.specs.declared.TheConstants.{FEWEST_KEYS, MOST_KEYS}
use Rattle.curve_keys.specs.declared.key.Key.{Key}
use Rattle.curve_keys.specs.Curves.{IsKey, is_rising, is_rising_from, begins_at_zero, last_time, curve_refusal}
use Rattle.frame_script.specs.declared.cause.Cause.{Cause}
use Rattle.frame_script.specs.declared.cause.Cause.TheVariants.{BadCurve}
use Rattle.frame_script.specs.Causes.{demand}
use Rattle.frame_script.specs.States.{is_next_time, with_key, lasting}
use Rattle.frame_script.proofs.Ranges.{done, ok_is}
use Rattle.script_fields.proofs.Ranges.{bind_ok}

-- ---- timings

other_duration : (was is : Bool) (fault : TimingFault) (rest : Option TimingFault) → is ≡ true → cond (not was) (Some fault) rest ≡ None → cond (not is) (Some fault) rest ≡ None
other_duration true true fault rest h k = k
other_duration true false fault rest h k = absurd cc
other_duration false is fault rest h k = absurd cc

pub lasting_fits : (duration : ℕ) (timing : TimingParts) → 0 < duration → duration ≤ LONGEST_DURATION → IsTiming timing → IsTiming (lasting duration timing)
lasting_fits duration timing some short fits =
    let within : is_duration duration ≡ true = rw (le-leb 1 duration (omega arith), le-leb duration LONGEST_DURATION short) refl in
    other_duration (is_duration timing.duration) (is_duration duration) _ _ within fits

-- ---- keys

pub demand_is : (test : Bool) (cause : Cause) → demand test cause ≡ Ok tt → test ≡ true
demand_is true cause h = refl
demand_is false cause h = absurd cc

-- the keys so far of a model that has this many: their times rise from 0, and each is one that may be
pub record AreKeys {V : Type 0} (is_value : V → Type 0) (most : ℕ) (keys : List (Key V)) : Type 0 where
  pub few : length keys ≤ most
  pub each : AllByRecursion (IsKey is_value) keys
  pub rising : is_rising keys ≡ true
  pub begins : 0 < length keys → begins_at_zero keys ≡ true

pub no_keys_yet : {V : Type 0} (is_value : V → Type 0) (most : ℕ) → AreKeys is_value most []
no_keys_yet is_value most = record { few = omega arith; each = tt; rising = refl; begins = λ some. absurd (omega arith) }

rising-push : {V : Type 0} (t : ℕ) (keys : List (Key V)) (key : Key V) → is_rising_from t keys ≡ true → ltb (last_time t keys) key.time ≡ true → is_rising_from t (keys ++ key ∷ []) ≡ true
rising-push t [] key rising later = rw later refl
rising-push t (first ∷ keys) key rising later =
    let b = and_parts (ltb t first.time) (is_rising_from first.time keys) rising in
    rw (b.0, rising-push first.time keys key b.1 later) refl

each-push : {A : Type 0} (P : A → Type 0) (xs : List A) (x : A) → AllByRecursion P xs → P x → AllByRecursion P (xs ++ x ∷ [])
each-push P [] x all here = (here, tt)
each-push P (y ∷ ys) x all here = (all.0, each-push P ys x all.1 here)

pub every-push : {A : Type 0} (P : A → Type 0) (xs : List A) (x : A) → AllByRecursion P xs → P x → AllByRecursion P (xs ++ x ∷ [])
every-push = each-push

still_rising : {V : Type 0} (keys : List (Key V)) (key : Key V) → is_rising keys ≡ true → is_next_time keys key.time ≡ true → is_rising (keys ++ key ∷ []) ≡ true
still_rising [] key rising next = refl
still_rising (first ∷ keys) key rising next = rising-push first.time keys key rising next

still_begins : {V : Type 0} (keys : List (Key V)) (key : Key V) → (0 < length keys → begins_at_zero keys ≡ true) → is_next_time keys key.time ≡ true → begins_at_zero (keys ++ key ∷ []) ≡ true
still_begins [] key begins next = next
still_begins (first ∷ keys) key begins next = begins (omega arith)

pub with_key_is : {V : Type 0} (keys more : List (Key V)) (key : Key V) → with_key keys key ≡ Ok more → (is_next_time keys key.time ≡ true) × (keys ++ key ∷ [] ≡ more)
with_key_is keys more key h =
    let d = bind_ok (demand (is_next_time keys key.time) BadCurve) (λ next. done (keys ++ key ∷ [])) more h in
    (demand_is (is_next_time keys key.time) BadCurve d.1, ok_is (keys ++ key ∷ []) more d.2)

pub one_key_more : {V : Type 0} (is_value : V → Type 0) (most : ℕ) (keys more : List (Key V)) (key : Key V) → AreKeys is_value most keys → length keys < most → IsKey is_value key
    → with_key keys key ≡ Ok more → (AreKeys is_value most more) × (0 < length more)
one_key_more {V} is_value most keys more key fits room here h =
    let w = with_key_is keys more key h in
    let made : (AreKeys is_value most (keys ++ key ∷ [])) × (0 < length (keys ++ key ∷ [])) = (
      record {
        few = omega (arith, length-append keys (key ∷ []), room);
        each = each-push (IsKey is_value) keys key fits.each here;
        rising = still_rising keys key fits.rising w.0;
        begins = λ some. still_begins keys key fits.begins w.0;
      },
      omega (arith, length-append keys (key ∷ [])),
    ) in
    subst (λ (ks : List (Key V)). (AreKeys is_value most ks) × (0 < length ks)) w.1 made

-- as many keys as a curve may have, of which this is known, make one
pub make_a_curve : {V : Type 0} (is_value : V → Type 0) (most : ℕ) (keys : List (Key V)) → AreKeys is_value most keys → length keys ≡ most → FEWEST_KEYS ≤ most → most ≤ MOST_KEYS
    → curve_refusal keys ≡ None
make_a_curve is_value most keys fits all fewest few =
    rw (
      le-ltb (length keys) FEWEST_KEYS (omega (arith, all, fewest)),
      le-ltb MOST_KEYS (length keys) (omega (arith, all, few)),
      fits.rising,
      fits.begins (omega (arith, all, fewest)),
    ) refl

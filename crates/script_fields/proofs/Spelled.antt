-- A number has one spelling: the digits that printing gives.
use Rattle.std.proofs.Common.{◌≡◌, ◌≢◌, ℕ, zero, suc, ◌+◌, ◌-◌, ◌*◌, ◌/◌, ◌%◌, ◌^◌, ◌<◌, ◌≤◌, Bool, true, false, cond, eqb, leb, ℤ, pos, negsuc, List, [], ◌∷◌, ◌++◌, length, get_or, append_assoc, length-append, Option, Some, None, refl, ap, sym, subst, ◌∙◌, arith, inl, inr}
use Rattle.std.specs.Prelude.{option_and_then, option_map, unsigned_abs}
use Rattle.std.specs.Char.{is_ascii_digit}
use Rattle.std.specs.List.{AllByRecursion}
use Rattle.std.specs.Fmt.{decimal, signed_decimal}
use Rattle.std.proofs.lemmas.Bool.Decides.{eqb_tells}
use Rattle.std.proofs.lemmas.Bool.{and_parts, leb-true, le-leb, eqb-true, eqb-false}
use Rattle.std.proofs.lemmas.List.{append-nil, get_or_append_left}
use Rattle.std.proofs.lemmas.Fmt.{decimal_digit, decimal_step, decimal_by_steps}
use Rattle.script_fields.specs.Numbers.{read_on, natural_of, negative, integer_of}

-- ---- one more digit at the end

digit_at_end : (m x d : ℕ) (is_digit : Bool) (xs : List ℕ)
    → read_on (10 * m + (x - 48)) (xs ++ d ∷ []) ≡ option_and_then (λ k. read_on k (d ∷ [])) (read_on (10 * m + (x - 48)) xs)
    → cond is_digit (read_on (10 * m + (x - 48)) (xs ++ d ∷ [])) None ≡ option_and_then (λ k. read_on k (d ∷ [])) (cond is_digit (read_on (10 * m + (x - 48)) xs) None)
digit_at_end m x d true xs h = h
digit_at_end m x d false xs h = refl

read_on-push : (m d : ℕ) (xs : List ℕ) → read_on m (xs ++ d ∷ []) ≡ option_and_then (λ k. read_on k (d ∷ [])) (read_on m xs)
read_on-push m d [] = refl
read_on-push m d (x ∷ xs) = digit_at_end m x d (is_ascii_digit x) xs (read_on-push (10 * m + (x - 48)) d xs)

-- what a digit is
pub record IsDigit (d : ℕ) : Type 0 where
  pub low : 48 ≤ d
  pub high : d ≤ 57

digit_is : (d : ℕ) → is_ascii_digit d ≡ true → IsDigit d
digit_is d h =
    let b = and_parts (leb 48 d) (leb d 57) h in
    record { low = leb-true 48 d b.0; high = leb-true d 57 b.1 }

is_digit : (d : ℕ) → 48 ≤ d → d ≤ 57 → is_ascii_digit d ≡ true
is_digit d low high = rw (le-leb 48 d low, le-leb d 57 high) refl

-- what one digit adds
last_digit : (k d n : ℕ) (digit : Bool) → cond digit (Some (10 * k + (d - 48))) None ≡ Some n → (digit ≡ true) × (n ≡ 10 * k + (d - 48))
last_digit k d n true h = (refl, cc)
last_digit k d n false h = absurd cc

-- ---- what is printed is read

-- these digits are those of n, and no zero stands before them
record AreDigitsOf (n : ℕ) (ds : List ℕ) : Type 0 where
  read : read_on 0 ds ≡ Some n
  some : 0 < length ds
  first : 0 < n → get_or ds 0 0 ≢ 48
  no_minus : get_or ds 0 0 ≢ 45

one_digit : (n : ℕ) → n < 10 → AreDigitsOf n ((48 + n) ∷ [])
one_digit n small = record {
  read = rw (is_digit (48 + n) (omega arith) (omega arith)) (ap Some (omega arith));
  some = omega arith;
  first = λ more same. omega arith;
  no_minus = λ same. omega arith;
}

more_digits : (n : ℕ) (ds : List ℕ) → 10 ≤ n → AreDigitsOf (n / 10) ds → AreDigitsOf n (ds ++ (48 + n % 10) ∷ [])
more_digits n ds big front =
    let d : ℕ = 48 + n % 10 in
    let digit : is_ascii_digit d ≡ true = is_digit d (omega arith) (omega arith) in
    let head : get_or (ds ++ d ∷ []) 0 0 ≡ get_or ds 0 0 = get_or_append_left ds (d ∷ []) 0 0 front.some in
    let ten : 0 < n / 10 = omega arith in
    let first = front.first ten in
    record {
      read = read_on-push 0 d ds ∙ (rw front.read (rw digit (ap Some (omega arith))));
      some = omega (arith, length-append ds (d ∷ []));
      first = λ more same. first (sym head ∙ same);
      no_minus = λ same. front.no_minus (sym head ∙ same);
    }

digits_of_decimal : (n : ℕ) → n < 2 ^ 64 → AreDigitsOf n (decimal n)
digits_of_decimal n small = decimal_by_steps AreDigitsOf one_digit more_digits n small

pub differs : (a b : ℕ) → a ≢ b → eqb a b ≡ false
differs a b h = elim (eqb_tells a b) [ inl same ↦ absurd (h same.1) | inr other ↦ other.0 ]

no_zero_first : (d e : ℕ) (ds : List ℕ) (is_zero : Bool) (n : ℕ) → is_zero ≡ false → read_on 0 (d ∷ e ∷ ds) ≡ Some n → cond is_zero None (read_on 0 (d ∷ e ∷ ds)) ≡ Some n
no_zero_first d e ds true n not_zero h = absurd cc
no_zero_first d e ds false n not_zero h = h

read_digits : (n : ℕ) (ds : List ℕ) → 0 < n → AreDigitsOf n ds → natural_of ds ≡ Some n
read_digits n [] more h = absurd (omega (arith, h.some))
read_digits n (d ∷ []) more h = h.read
read_digits n (d ∷ e ∷ ds) more h = no_zero_first d e ds (eqb d 48) n (differs d 48 (h.first more)) h.read

pub natural_of-decimal : (n : ℕ) → n < 2 ^ 64 → natural_of (decimal n) ≡ Some n
natural_of-decimal zero small = rw (decimal_digit 0 (omega arith)) refl
natural_of-decimal (suc n) small = read_digits (suc n) (decimal (suc n)) (omega arith) (digits_of_decimal (suc n) small)

-- ---- what is read was printed

-- what holds of nothing, and of one more at the end, holds of every list
from_the_end : (P : List ℕ → Type 0) → P [] → ((xs : List ℕ) (x : ℕ) → P xs → P (xs ++ x ∷ [])) → (front xs : List ℕ) → P front → P (front ++ xs)
from_the_end P none more front [] h = subst P (sym (append-nil front)) h
from_the_end P none more front (x ∷ xs) h =
    subst P (append_assoc front (x ∷ []) xs) (from_the_end P none more (front ++ x ∷ []) xs (more front x h))

grown_digit : (k d n : ℕ) (digit : Bool) (ds : List ℕ) → (read_on (10 * k + (d - 48)) ds ≡ Some n → 10 * k + (d - 48) ≤ n)
    → cond digit (read_on (10 * k + (d - 48)) ds) None ≡ Some n → (digit ≡ true) × (10 * k + (d - 48) ≤ n)
grown_digit k d n true ds grows h = (refl, grows h)
grown_digit k d n false ds grows h = absurd cc

-- digits make a number no smaller
read_on-le : (k n : ℕ) (ds : List ℕ) → read_on k ds ≡ Some n → k ≤ n
read_on-le k n [] h = let same : k ≡ n = cc in omega arith
read_on-le k n (d ∷ ds) h =
    let g = grown_digit k d n (is_ascii_digit d) ds (read_on-le (10 * k + (d - 48)) n ds) h in omega (arith, g.1)

-- no zero in front, so it is more than nothing
some_number : (m : ℕ) (ds : List ℕ) → 0 < length ds → get_or ds 0 0 ≢ 48 → read_on 0 ds ≡ Some m → 0 < m
some_number m [] some first h = absurd (omega arith)
some_number m (d ∷ ds) some first h =
    let g = grown_digit 0 d m (is_ascii_digit d) ds (read_on-le (10 * 0 + (d - 48)) m ds) h in
    let digit = digit_is d g.0 in
    omega (arith, g.1, digit.low, first)

-- the digits of n that are read are those that are printed
record IsSpelling (ds : List ℕ) : Type 0 where
  printed : (n : ℕ) → n < 2 ^ 64 → 0 < length ds → (1 < length ds → get_or ds 0 0 ≢ 48) → read_on 0 ds ≡ Some n → ds ≡ decimal n

some_read : (d n : ℕ) (read : Option ℕ) → option_and_then (λ k. read_on k (d ∷ [])) read ≡ Some n
    → (m : ℕ) × (read ≡ Some m) × (read_on m (d ∷ []) ≡ Some n)
some_read d n None h = absurd cc
some_read d n (Some m) h = (m, refl, h)

one_spelling : (d n m : ℕ) (ds : List ℕ) → n < 2 ^ 64 → is_ascii_digit d ≡ true → n ≡ 10 * m + (d - 48) → read_on 0 ds ≡ Some m
    → (1 < length (ds ++ d ∷ []) → get_or (ds ++ d ∷ []) 0 0 ≢ 48) → IsSpelling ds → ds ++ d ∷ [] ≡ decimal n
one_spelling d n m [] small digit n-is read first front =
    let range = digit_is d digit in
    let none : m ≡ 0 = cc in
    let same : d ≡ 48 + n = omega (arith, range.low, n-is, none) in
    let below : n < 10 = omega (arith, range.high, n-is, none) in
    rw (decimal_digit n below) (ap (λ (x : ℕ). x ∷ []) same)
one_spelling d n m (x ∷ xs) small digit n-is read first front =
    let range = digit_is d digit in
    let long : 1 < length ((x ∷ xs) ++ d ∷ []) = omega (arith, length-append (x ∷ xs) (d ∷ [])) in
    let more : 0 < m = some_number m (x ∷ xs) (omega arith) (first long) read in
    let big : 10 ≤ n = omega (arith, n-is, more) in
    let front-is : n / 10 ≡ m = omega (arith, n-is, range.low, range.high) in
    let last-is : 48 + n % 10 ≡ d = omega (arith, n-is, range.low, range.high) in
    let printed : x ∷ xs ≡ decimal m = front.printed m (omega (arith, n-is)) (omega arith) (λ many. first long) read in
    rw (decimal_step n big small, front-is, last-is) (ap (λ (ds : List ℕ). ds ++ d ∷ []) printed)

spelling_grows : (ds : List ℕ) (d : ℕ) → IsSpelling ds → IsSpelling (ds ++ d ∷ [])
spelling_grows ds d front = record {
  printed = λ n small some first h.
      let r = some_read d n (read_on 0 ds) (sym (read_on-push 0 d ds) ∙ h) in
      let l = last_digit r.0 d n (is_ascii_digit d) r.2 in
      one_spelling d n r.0 ds small l.0 l.1 r.1 first front;
}

nothing_spells : IsSpelling []
nothing_spells = record { printed = λ n small some first h. absurd (omega (arith, some)) }

spelled : (ds : List ℕ) → IsSpelling ds
spelled ds = from_the_end IsSpelling nothing_spells spelling_grows [] ds nothing_spells

not_zero_first : (d e n : ℕ) (ds : List ℕ) (is_zero : Bool) → cond is_zero None (read_on 0 (d ∷ e ∷ ds)) ≡ Some n → (is_zero ≡ false) × (read_on 0 (d ∷ e ∷ ds) ≡ Some n)
not_zero_first d e n ds true h = absurd cc
not_zero_first d e n ds false h = (refl, h)

pub natural_was_printed : (ds : List ℕ) (n : ℕ) → n < 2 ^ 64 → natural_of ds ≡ Some n → ds ≡ decimal n
natural_was_printed [] n small h = absurd cc
natural_was_printed (d ∷ []) n small h = (spelled (d ∷ [])).printed n small (omega arith) (λ long. absurd (omega (arith, long))) h
natural_was_printed (d ∷ e ∷ ds) n small h =
    let p = not_zero_first d e n ds (eqb d 48) h in
    (spelled (d ∷ e ∷ ds)).printed n small (omega arith) (λ long. eqb-false d 48 p.0) p.1

-- ---- signed numbers

positive : (n : ℕ) (ds : List ℕ) → AreDigitsOf n ds → natural_of ds ≡ Some n → integer_of ds ≡ Some (pos n)
positive n [] digits h = absurd (omega (arith, digits.some))
positive n (d ∷ ds) digits h = rw (differs d 45 digits.no_minus, h) refl

pub integer_of-signed_decimal : (z : ℤ) → unsigned_abs z < 2 ^ 64 → integer_of (signed_decimal z) ≡ Some z
integer_of-signed_decimal (pos n) small = positive n (decimal n) (digits_of_decimal n small) (natural_of-decimal n small)
integer_of-signed_decimal (negsuc n) small = rw (natural_of-decimal (suc n) small) refl

some_negative : (read : Option ℕ) (z : ℤ) → option_and_then negative read ≡ Some z → (n : ℕ) × (read ≡ Some (suc n)) × (z ≡ negsuc n)
some_negative None z h = absurd cc
some_negative (Some zero) z h = absurd cc
some_negative (Some (suc n)) z h = (n, refl, cc)

some_positive : (read : Option ℕ) (z : ℤ) → option_map pos read ≡ Some z → (n : ℕ) × (read ≡ Some n) × (z ≡ pos n)
some_positive None z h = absurd cc
some_positive (Some n) z h = (n, refl, cc)

signed : (d : ℕ) (ds : List ℕ) (z : ℤ) (is_minus : Bool) → eqb d 45 ≡ is_minus → unsigned_abs z < 2 ^ 64
    → cond is_minus (option_and_then negative (natural_of ds)) (option_map pos (natural_of (d ∷ ds))) ≡ Some z → d ∷ ds ≡ signed_decimal z
signed d ds z true minus small h =
    let r = some_negative (natural_of ds) z h in
    let below : suc r.0 < 2 ^ 64 = (rw r.2 at small) in
    rw (r.2, eqb-true d 45 minus) (ap (λ (ds : List ℕ). 45 ∷ ds) (natural_was_printed ds (suc r.0) below r.1))
signed d ds z false minus small h =
    let r = some_positive (natural_of (d ∷ ds)) z h in
    let below : r.0 < 2 ^ 64 = (rw r.2 at small) in
    rw r.2 (natural_was_printed (d ∷ ds) r.0 below r.1)

pub integer_was_printed : (ds : List ℕ) (z : ℤ) → unsigned_abs z < 2 ^ 64 → integer_of ds ≡ Some z → ds ≡ signed_decimal z
integer_was_printed [] z small h = absurd cc
integer_was_printed (d ∷ ds) z small h = signed d ds z (eqb d 45) refl small h

-- ---- what is printed is digits

last_read : (k n d : ℕ) (digit : Bool) (ds : List ℕ) → cond digit (read_on (10 * k + (d - 48)) ds) None ≡ Some n → (digit ≡ true) × (read_on (10 * k + (d - 48)) ds ≡ Some n)
last_read k n d true ds h = (refl, h)
last_read k n d false ds h = absurd cc

are_digits : (k n : ℕ) (ds : List ℕ) → read_on k ds ≡ Some n → AllByRecursion IsDigit ds
are_digits k n [] h = tt
are_digits k n (d ∷ ds) h =
    let g = last_read k n d (is_ascii_digit d) ds h in (digit_is d g.0, are_digits (10 * k + (d - 48)) n ds g.1)

pub digits_printed : (n : ℕ) → n < 2 ^ 64 → AllByRecursion IsDigit (decimal n)
digits_printed n small = are_digits 0 n (decimal n) (digits_of_decimal n small).read

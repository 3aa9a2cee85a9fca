-- What a value is printed as says it, and is plain: no space, no colon and no line feed stands in it.
use Rattle.std.proofs.Common.{◌≡◌, ℕ, suc, ◌-◌, ◌^◌, ◌<◌, ◌≤◌, Bool, true, false, eqb, ◌&&◌, not, ℤ, pos, negsuc, List, [], ◌∷◌, ◌++◌, map, Option, Some, None, refl, ap, ◌∙◌, arith}
use Rattle.std.specs.Prelude.{codes, unsigned_abs, IfSome}
use Rattle.std.specs.Str.{bytes_eq}
use Rattle.std.specs.Fmt.{decimal, signed_decimal}
use Rattle.std.specs.List.{AllByRecursion}
use Rattle.std.proofs.lemmas.Bool.{and_parts, leb-true, le-leb}
use Rattle.std.proofs.lemmas.Slice.Eq.{bytes_eq-Decides}
use Rattle.anim_names.specs.declared.lane.Lane.{Lane}
use Rattle.anim_names.specs.declared.lane.Lane.TheVariants.{Main, Compositor}
use Rattle.anim_names.specs.declared.property.Property.{Property}
use Rattle.anim_names.specs.declared.property.Property.TheVariants.{Opacity, Transform}
use Rattle.anim_delegate.specs.declared.policy.Policy.{Policy}
use Rattle.anim_delegate.specs.declared.policy.Policy.TheVariants.{Auto, FinishedOnly, Manual}
use Rattle.anim_timeline.specs.declared.TheConstants.{LAST_TIME}
use Rattle.anim_timeline.specs.Timelines.{IsTime}
use Rattle.micro_time.specs.declared.TheConstants.{LONGEST_DURATION, MOST_ITERATIONS}
use Rattle.micro_time.specs.declared.direction.Direction.{Direction}
use Rattle.micro_time.specs.declared.direction.Direction.TheVariants.{Normal, Reverse, Alternate, AlternateReverse}
use Rattle.micro_time.specs.declared.fill.Fill.{Fill}
use Rattle.micro_time.specs.declared.fill.Fill.TheVariants.{Neither, Forwards, Backwards, Both}
use Rattle.micro_time.specs.declared.iterations.Iterations.{Iterations}
use Rattle.micro_time.specs.declared.iterations.Iterations.TheVariants.{Finite, Infinite}
use Rattle.micro_time.specs.Timings.{are_iterations}
use Rattle.value_blend.specs.declared.TheConstants.{FULL_OPACITY}
use Rattle.value_blend.specs.Blends.{IsOpacity}
use Rattle.easing_fixed.specs.declared.position.StepPosition.{StepPosition}
use Rattle.easing_fixed.specs.declared.position.StepPosition.TheVariants.{JumpStart, JumpEnd, JumpNone, JumpBoth}
use Rattle.keyframe_model.specs.Models.{IsId}
use Rattle.script_fields.specs.declared.values.Count.{Count}
use Rattle.script_fields.specs.declared.values.Count.TheVariants.{Endless, Counted}
use Rattle.script_fields.specs.Fields.{all_say}
use Rattle.script_fields.specs.Numbers.{natural_of, natural_within, integer_kept, number_said}
use Rattle.script_fields.specs.Values.{id_said, opacity_said, time_said, key_time_said, start_said, count_said}
use Rattle.script_fields.specs.Keywords.{property_said, direction_said, fill_said, policy_said, position_said, letter_said, letters_said}
use Rattle.script_fields.specs.Printed.{property_text, direction_text, fill_text, policy_text, position_text, letter, word_text, start_text, iterations_text}
use Rattle.script_fields.proofs.Spelled.{natural_of-decimal, integer_of-signed_decimal, IsDigit, differs, digits_printed}

-- ---- plain bytes

-- no space, no colon and no line feed
abbrev pub is_plain : ℕ → Bool
is_plain byte = not (eqb byte 32) && (not (eqb byte 58) && not (eqb byte 10))

abbrev pub IsPlain : List ℕ → Type 0
IsPlain bytes = AllByRecursion (λ byte. is_plain byte ≡ true) bytes

-- bytes that pass the test, one after the other
unfoldable pub are_plain : List ℕ → Bool
are_plain [] = true
are_plain (b ∷ bytes) = is_plain b && are_plain bytes

pub plain_text : (bytes : List ℕ) → are_plain bytes ≡ true → IsPlain bytes
unfolding are_plain
plain_text [] h = tt
plain_text (b ∷ bytes) h = let p = and_parts (is_plain b) (are_plain bytes) h in (p.0, plain_text bytes p.1)

three : (a b c : Bool) → (not a && (not b && not c)) ≡ true → (a ≡ false) × (b ≡ false) × (c ≡ false)
three true b c h = absurd cc
three false true c h = absurd cc
three false false true h = absurd cc
three false false false h = (refl, refl, refl)

pub no_spaces : (bytes : List ℕ) → IsPlain bytes → AllByRecursion (λ b. eqb b 32 ≡ false) bytes
no_spaces [] plain = tt
no_spaces (b ∷ bytes) plain = ((three (eqb b 32) (eqb b 58) (eqb b 10) plain.0).0, no_spaces bytes plain.1)

pub no_colons : (bytes : List ℕ) → IsPlain bytes → AllByRecursion (λ b. eqb b 58 ≡ false) bytes
no_colons [] plain = tt
no_colons (b ∷ bytes) plain = ((three (eqb b 32) (eqb b 58) (eqb b 10) plain.0).1, no_colons bytes plain.1)

-- ---- numbers

digit_plain : (d : ℕ) → IsDigit d → is_plain d ≡ true
digit_plain d digit =
    rw (differs d 32 (λ same. omega (arith, digit.low, same)), differs d 58 (λ same. omega (arith, digit.high, same)), differs d 10 (λ same. omega (arith, digit.low, same))) refl

digits_plain : (ds : List ℕ) → AllByRecursion IsDigit ds → IsPlain ds
digits_plain [] digits = tt
digits_plain (d ∷ ds) digits = (digit_plain d digits.0, digits_plain ds digits.1)

pub decimal_plain : (n : ℕ) → n < 2 ^ 64 → IsPlain (decimal n)
decimal_plain n small = digits_plain (decimal n) (digits_printed n small)

pub signed_plain : (z : ℤ) → unsigned_abs z < 2 ^ 64 → IsPlain (signed_decimal z)
signed_plain (pos n) small = decimal_plain n small
signed_plain (negsuc n) small = (refl, decimal_plain (suc n) small)

pub natural_back : (high n : ℕ) → n ≤ high → high < 2 ^ 64 → natural_within 0 high (decimal n) ≡ Some n
natural_back high n le small =
    let below : n < 2 ^ 64 = omega arith in
    rw (natural_of-decimal n below, le-leb 0 n (omega arith), le-leb n high le) refl

kept_back : (z : ℤ) → unsigned_abs z < 2 ^ 63 → integer_kept (negsuc (2 ^ 63 - 1)) (pos (2 ^ 63 - 1)) z ≡ Some z
kept_back (pos n) small = let le : n ≤ 2 ^ 63 - 1 = omega arith in rw (le-leb n (2 ^ 63 - 1) le) refl
kept_back (negsuc n) small = let le : n ≤ 2 ^ 63 - 1 = omega arith in rw (le-leb n (2 ^ 63 - 1) le) refl

pub number_back : (z : ℤ) → unsigned_abs z < 2 ^ 63 → number_said (signed_decimal z) ≡ Some z
number_back z small =
    let below : unsigned_abs z < 2 ^ 64 = omega arith in
    rw (integer_of-signed_decimal z below) (kept_back z small)

pub id_back : (id : ℕ) → IsId id → id_said (decimal id) ≡ Some id
unfolding id_said
id_back id fits = let le : id ≤ 2 ^ 32 - 1 = omega arith in natural_back (2 ^ 32 - 1) id le (omega arith)

pub time_back : (time : ℕ) → IsTime time → time_said (decimal time) ≡ Some time
unfolding time_said
time_back time fits = natural_back LAST_TIME time fits (omega arith)

pub key_time_back : (time : ℕ) → time ≤ LONGEST_DURATION → key_time_said (decimal time) ≡ Some time
unfolding key_time_said
key_time_back time fits = natural_back LONGEST_DURATION time fits (omega arith)

pub opacity_back : (opacity : ℕ) → IsOpacity opacity → opacity_said (decimal opacity) ≡ Some opacity
unfolding opacity_said
opacity_back opacity fits =
    let small : opacity < 2 ^ 63 = omega arith in
    rw (number_back (pos opacity) small, le-leb opacity FULL_OPACITY fits) refl

-- ---- keywords, and numbers that may be a keyword

other_text : (bytes text : List ℕ) (same : Bool) → bytes_eq bytes text ≡ same → (bytes ≡ text → ⊥) → bytes_eq bytes text ≡ false
other_text bytes text true is differ = absurd (differ ((bytes_eq-Decides bytes text).0 is))
other_text bytes text false is differ = is

-- digits are no word
digits_are_no_word : (n : ℕ) (text : List ℕ) → n < 2 ^ 64 → natural_of text ≡ None → bytes_eq (decimal n) text ≡ false
digits_are_no_word n text small none =
    other_text (decimal n) text (bytes_eq (decimal n) text) refl (λ same. let number : natural_of (decimal n) ≡ Some n = natural_of-decimal n small in let nothing : natural_of (decimal n) ≡ None = ap natural_of same ∙ none in absurd cc)

pub start_back : (start : Option ℕ) → IfSome start IsTime → start_said (start_text start) ≡ Some start
unfolding start_said
start_back None fits = refl
start_back (Some time) fits =
    let small : time < 2 ^ 64 = omega arith in
    rw (digits_are_no_word time (codes "-") small refl, time_back time fits) refl

-- how often a curve is run through, as a number that was not judged
abbrev pub count_of : Iterations → Count
count_of (Finite count) = Counted (pos count)
count_of Infinite = Endless

pub count_back : (iterations : Iterations) → are_iterations iterations ≡ true → count_said (iterations_text iterations) ≡ Some (count_of iterations)
unfolding count_said
count_back (Finite count) fits =
    let few : count ≤ MOST_ITERATIONS = leb-true count MOST_ITERATIONS fits in
    let small : count < 2 ^ 63 = omega arith in
    rw (digits_are_no_word count (codes "infinite") (omega arith) refl, number_back (pos count) small) refl
count_back Infinite fits = refl

pub property_back : (property : Property) → property_said (property_text property) ≡ Some property
property_back Opacity = refl
property_back Transform = refl

pub direction_back : (direction : Direction) → direction_said (direction_text direction) ≡ Some direction
direction_back Normal = refl
direction_back Reverse = refl
direction_back Alternate = refl
direction_back AlternateReverse = refl

pub fill_back : (fill : Fill) → fill_said (fill_text fill) ≡ Some fill
fill_back Neither = refl
fill_back Forwards = refl
fill_back Backwards = refl
fill_back Both = refl

pub policy_back : (policy : Policy) → policy_said (policy_text policy) ≡ Some policy
policy_back Auto = refl
policy_back FinishedOnly = refl
policy_back Manual = refl

pub position_back : (position : StepPosition) → position_said (position_text position) ≡ Some position
position_back JumpStart = refl
position_back JumpEnd = refl
position_back JumpNone = refl
position_back JumpBoth = refl

-- ---- letters

letter_back : (lane : Lane) → letter_said (letter lane) ≡ Some lane
letter_back Main = refl
letter_back Compositor = refl

letters_back : (word : List Lane) → all_say letter_said (map letter word) ≡ Some word
letters_back [] = refl
letters_back (lane ∷ word) = rw (letter_back lane, letters_back word) refl

pub word_back : (word : List Lane) → letters_said (word_text word) ≡ Some word
unfolding letters_said
word_back [] = refl
word_back (Main ∷ word) = rw (letters_back word) refl
word_back (Compositor ∷ word) = rw (letters_back word) refl

letters_plain : (word : List Lane) → IsPlain (map letter word)
letters_plain [] = tt
letters_plain (Main ∷ word) = (refl, letters_plain word)
letters_plain (Compositor ∷ word) = (refl, letters_plain word)

pub word_plain : (word : List Lane) → IsPlain (word_text word)
word_plain [] = (refl, tt)
word_plain (Main ∷ word) = (refl, letters_plain word)
word_plain (Compositor ∷ word) = (refl, letters_plain word)

-- ---- what else is plain

pub start_plain : (start : Option ℕ) → IfSome start IsTime → IsPlain (start_text start)
start_plain None fits = (refl, tt)
start_plain (Some time) fits = let small : time < 2 ^ 64 = omega arith in decimal_plain time small

-- ---- bytes of a field

-- no space and no line feed
abbrev pub is_within : ℕ → Bool
is_within byte = not (eqb byte 32) && not (eqb byte 10)

-- what may be a field of a line
abbrev pub IsField : List ℕ → Type 0
IsField bytes = AllByRecursion (λ byte. is_within byte ≡ true) bytes

pub field-append : (first second : List ℕ) → IsField first → IsField second → IsField (first ++ second)
field-append [] second f s = s
field-append (b ∷ first) second f s = (f.0, field-append first second f.1 s)

within : (a b c : Bool) → (not a && (not b && not c)) ≡ true → (not a && not c) ≡ true
within true b c h = absurd cc
within false true c h = absurd cc
within false false true h = absurd cc
within false false false h = refl

pub plain_field : (bytes : List ℕ) → IsPlain bytes → IsField bytes
plain_field [] plain = tt
plain_field (b ∷ bytes) plain = (within (eqb b 32) (eqb b 58) (eqb b 10) plain.0, plain_field bytes plain.1)

-- bytes that pass the test, one after the other
unfoldable pub are_within : List ℕ → Bool
are_within [] = true
are_within (b ∷ bytes) = is_within b && are_within bytes

field_by_test : (bytes : List ℕ) → are_within bytes ≡ true → IsField bytes
unfolding are_within
field_by_test [] h = tt
field_by_test (b ∷ bytes) h = let p = and_parts (is_within b) (are_within bytes) h in (p.0, field_by_test bytes p.1)

pub property_field : (property : Property) → IsField (property_text property)
unfolding are_within
property_field Opacity = field_by_test (codes "opacity") refl
property_field Transform = field_by_test (codes "transform") refl

pub direction_field : (direction : Direction) → IsField (direction_text direction)
unfolding are_within
direction_field Normal = field_by_test (codes "normal") refl
direction_field Reverse = field_by_test (codes "reverse") refl
direction_field Alternate = field_by_test (codes "alternate") refl
direction_field AlternateReverse = field_by_test (codes "alternate-reverse") refl

pub fill_field : (fill : Fill) → IsField (fill_text fill)
unfolding are_within
fill_field Neither = field_by_test (codes "none") refl
fill_field Forwards = field_by_test (codes "forwards") refl
fill_field Backwards = field_by_test (codes "backwards") refl
fill_field Both = field_by_test (codes "both") refl

pub policy_field : (policy : Policy) → IsField (policy_text policy)
unfolding are_within
policy_field Auto = field_by_test (codes "auto") refl
policy_field FinishedOnly = field_by_test (codes "finished") refl
policy_field Manual = field_by_test (codes "manual") refl

pub text_field : (bytes : List ℕ) → are_within bytes ≡ true → IsField bytes
text_field = field_by_test

pub iterations_field : (iterations : Iterations) → are_iterations iterations ≡ true → IsField (iterations_text iterations)
unfolding are_within
iterations_field (Finite count) fits =
    let few : count ≤ MOST_ITERATIONS = leb-true count MOST_ITERATIONS fits in
    let small : count < 2 ^ 64 = omega arith in plain_field (decimal count) (decimal_plain count small)
iterations_field Infinite fits = field_by_test (codes "infinite") refl

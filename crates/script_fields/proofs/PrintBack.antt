-- What an easing, a timing and a list are printed as says them.
use Rattle.std.proofs.Common.{◌≡◌, ℕ, suc, ◌-◌, ◌^◌, ◌<◌, ◌≤◌, Bool, true, false, cond, leb, eqb, ◌&&◌, not, ℤ, pos, negsuc, List, [], ◌∷◌, ◌++◌, map, length, append_assoc, Option, Some, None, Ok, refl, ap, sym, subst, ◌∙◌, arith}
use Rattle.std.specs.Prelude.{codes, unsigned_abs, int_le}
use Rattle.std.specs.Option.{option_or}
use Rattle.std.specs.Str.{bytes_eq}
use Rattle.std.specs.Fmt.{decimal, signed_decimal}
use Rattle.std.specs.List.{AllByRecursion}
use Rattle.std.proofs.lemmas.Bool.{and_parts, leb-true, le-leb}
use Rattle.std.proofs.lemmas.List.{append-nil}
use Rattle.std.proofs.lemmas.List.Elements.{All-from_recursion}
use Rattle.std.proofs.lemmas.List.Splits.{slice_split_none, slice_split_at}
use Rattle.micro_time.specs.declared.TheConstants.{MOST_ITERATIONS, LAST_ITERATION_START, LARGEST_RATE, LARGEST_OFFSET}
use Rattle.micro_time.specs.declared.iterations.Iterations.{Iterations}
use Rattle.micro_time.specs.declared.iterations.Iterations.TheVariants.{Finite, Infinite}
use Rattle.micro_time.specs.declared.fault.TimingFault.{TimingFault}
use Rattle.micro_time.specs.Timings.{TimingParts, IsTiming, refusal, is_duration, is_offset, are_iterations, is_iteration_start, is_rate}
use Rattle.value_blend.specs.declared.TheConstants.{LARGEST_NUMBER}
use Rattle.value_blend.specs.Blends.{IsNumber, is_number}
use Rattle.easing_fixed.specs.declared.TheConstants.{MOST_INTERVALS, END, LARGEST_Y}
use Rattle.easing_fixed.specs.declared.easing.Easing.{Easing}
use Rattle.easing_fixed.specs.declared.easing.Easing.TheVariants.{Linear, Steps, Cubic}
use Rattle.easing_fixed.specs.declared.position.StepPosition.{StepPosition}
use Rattle.easing_fixed.specs.declared.position.StepPosition.TheVariants.{JumpStart, JumpEnd, JumpNone, JumpBoth}
use Rattle.easing_fixed.specs.Easings.{IsEasing}
use Rattle.easing_fixed.specs.Steps.{StepParts, AreSteps, least_count}
use Rattle.easing_fixed.specs.Cubics.{CubicParts, IsCubic, is_x, is_y}
use Rattle.transform_ops.specs.declared.TheConstants.{MOST_OPERATIONS}
use Rattle.transform_ops.specs.declared.op.TransformOp.{TransformOp}
use Rattle.transform_ops.specs.declared.op.TransformOp.TheVariants.{Translate, Scale, Rotate, Skew}
use Rattle.transform_ops.specs.Operations.{IsOperation}
use Rattle.transform_ops.specs.Lists.{IsList}
use Rattle.script_fields.specs.declared.values.TimingNumbers.{TimingNumbers}
use Rattle.script_fields.specs.Fields.{parts, all_read}
use Rattle.script_fields.specs.Values.{iterations_of, rate_of, timing_with, timing_of}
use Rattle.script_fields.specs.Easings.{keyword_said, steps_of, steps_said, cubic_of, cubic_through, cubic_said, easing_said}
use Rattle.script_fields.specs.Lists.{operation_with, operation_read, is_none_alone, is_list_long, list_read}
use Rattle.script_fields.specs.Printed.{position_text, cubic_text, easing_text, axes_text, turn_text, operation_text, list_fields}
use Rattle.script_fields.proofs.ReadBack.{IsPlain, IsField, field-append, plain_field, no_colons, are_plain, plain_text, are_within, text_field, decimal_plain, signed_plain, natural_back, number_back, position_back, count_of}

-- ---- parts

-- numbers, each behind a colon
abbrev colons : List ℤ → List ℕ
colons [] = []
colons (z ∷ zs) = 58 ∷ (signed_decimal z ++ colons zs)

-- each of the numbers has 63 bits at most
abbrev AreSmall : List ℤ → Type 0
AreSmall zs = AllByRecursion (λ z. unsigned_abs z < 2 ^ 63) zs

one_part : (bytes : List ℕ) → IsPlain bytes → parts bytes ≡ bytes ∷ []
one_part bytes plain = slice_split_none (λ b. eqb b 58) bytes (All-from_recursion (λ b. eqb b 58 ≡ false) bytes (no_colons bytes plain))

first_part : (bytes rest : List ℕ) → IsPlain bytes → parts (bytes ++ 58 ∷ rest) ≡ bytes ∷ parts rest
first_part bytes rest plain = slice_split_at (λ b. eqb b 58) bytes 58 rest (All-from_recursion (λ b. eqb b 58 ≡ false) bytes (no_colons bytes plain)) refl

number_parts : (name : List ℕ) (zs : List ℤ) → IsPlain name → AreSmall zs → parts (name ++ colons zs) ≡ name ∷ map signed_decimal zs
number_parts name [] plain small = rw (append-nil name) (one_part name plain)
number_parts name (z ∷ zs) plain small =
    let below : unsigned_abs z < 2 ^ 64 = omega (arith, small.0) in
    first_part name (signed_decimal z ++ colons zs) plain
    ∙ ap (λ (ps : List (List ℕ)). name ∷ ps) (number_parts (signed_decimal z) zs (signed_plain z below) small.1)

colons_field : (zs : List ℤ) → AreSmall zs → IsField (colons zs)
colons_field [] small = tt
colons_field (z ∷ zs) small =
    let below : unsigned_abs z < 2 ^ 64 = omega (arith, small.0) in
    (refl, field-append (signed_decimal z) (colons zs) (plain_field (signed_decimal z) (signed_plain z below)) (colons_field zs small.1))

-- ---- operations

small_number : (z : ℤ) → IsNumber z → unsigned_abs z < 2 ^ 63
small_number z fits = omega (arith, fits)

tested : (z : ℤ) → IsNumber z → is_number z ≡ true
tested z fits = le-leb (unsigned_abs z) LARGEST_NUMBER fits

-- the name of an operation, and its numbers
abbrev name_of : TransformOp → List ℕ
name_of (Translate x y z) = codes "translate"
name_of (Scale x y z) = codes "scale"
name_of (Rotate x y z angle) = codes "rotate"
name_of (Skew x y) = codes "skew"

abbrev numbers_of : TransformOp → List ℤ
numbers_of (Translate x y z) = x ∷ y ∷ z ∷ []
numbers_of (Scale x y z) = x ∷ y ∷ z ∷ []
numbers_of (Rotate x y z angle) = x ∷ y ∷ z ∷ angle ∷ []
numbers_of (Skew x y) = x ∷ y ∷ []

small_numbers : (op : TransformOp) → IsOperation op → AreSmall (numbers_of op)
small_numbers (Translate x y z) fits = (small_number x fits.0, (small_number y fits.1, (small_number z fits.2, tt)))
small_numbers (Scale x y z) fits = (small_number x fits.0, (small_number y fits.1, (small_number z fits.2, tt)))
small_numbers (Rotate x y z angle) fits = (small_number x fits.0, (small_number y fits.1, (small_number z fits.2, (small_number angle fits.3, tt))))
small_numbers (Skew x y) fits = (small_number x fits.0, (small_number y fits.1, tt))

two_texts : (a b : List ℕ) → a ++ 58 ∷ b ≡ a ++ 58 ∷ (b ++ [])
two_texts a b = rw (append-nil b) refl

three_texts : (a b c : List ℕ) → (a ++ 58 ∷ b) ++ 58 ∷ c ≡ a ++ 58 ∷ (b ++ 58 ∷ (c ++ []))
three_texts a b c = rw (append-nil c) (append_assoc a (58 ∷ b) (58 ∷ c))

four_texts : (a b c d : List ℕ) → ((a ++ 58 ∷ b) ++ 58 ∷ c) ++ 58 ∷ d ≡ a ++ 58 ∷ (b ++ 58 ∷ (c ++ 58 ∷ (d ++ [])))
four_texts a b c d =
    rw (append-nil d) (ap (λ (bytes : List ℕ). bytes ++ 58 ∷ d) (append_assoc a (58 ∷ b) (58 ∷ c)) ∙ (append_assoc a (58 ∷ (b ++ 58 ∷ c)) (58 ∷ d)
    ∙ ap (λ (bytes : List ℕ). a ++ 58 ∷ bytes) (append_assoc b (58 ∷ c) (58 ∷ d))))

text_is : (op : TransformOp) → operation_text op ≡ name_of op ++ colons (numbers_of op)
unfolding operation_text axes_text turn_text
text_is (Translate x y z) = ap (λ (bytes : List ℕ). codes "translate:" ++ bytes) (three_texts (signed_decimal x) (signed_decimal y) (signed_decimal z))
text_is (Scale x y z) = ap (λ (bytes : List ℕ). codes "scale:" ++ bytes) (three_texts (signed_decimal x) (signed_decimal y) (signed_decimal z))
text_is (Rotate x y z angle) = ap (λ (bytes : List ℕ). codes "rotate:" ++ bytes) (four_texts (signed_decimal x) (signed_decimal y) (signed_decimal z) (signed_decimal angle))
text_is (Skew x y) = ap (λ (bytes : List ℕ). codes "skew:" ++ bytes) (two_texts (signed_decimal x) (signed_decimal y))

plain_name : (op : TransformOp) → IsPlain (name_of op)
unfolding are_plain
plain_name (Translate x y z) = plain_text (codes "translate") refl
plain_name (Scale x y z) = plain_text (codes "scale") refl
plain_name (Rotate x y z angle) = plain_text (codes "rotate") refl
plain_name (Skew x y) = plain_text (codes "skew") refl

with_parts : (op : TransformOp) → IsOperation op → operation_with (name_of op ∷ map signed_decimal (numbers_of op)) ≡ Ok op
unfolding operation_with
with_parts (Translate x y z) fits =
    rw (number_back x (small_number x fits.0), number_back y (small_number y fits.1), number_back z (small_number z fits.2), tested x fits.0, tested y fits.1, tested z fits.2) refl
with_parts (Scale x y z) fits =
    rw (number_back x (small_number x fits.0), number_back y (small_number y fits.1), number_back z (small_number z fits.2), tested x fits.0, tested y fits.1, tested z fits.2) refl
with_parts (Rotate x y z angle) fits =
    rw (
      number_back x (small_number x fits.0),
      number_back y (small_number y fits.1),
      number_back z (small_number z fits.2),
      number_back angle (small_number angle fits.3),
      tested x fits.0,
      tested y fits.1,
      tested z fits.2,
      tested angle fits.3,
    ) refl
with_parts (Skew x y) fits =
    rw (number_back x (small_number x fits.0), number_back y (small_number y fits.1), tested x fits.0, tested y fits.1) refl

pub operation_back : (op : TransformOp) → IsOperation op → operation_read (operation_text op) ≡ Ok op
unfolding operation_read
operation_back op fits =
    ap (λ (bytes : List ℕ). operation_with (parts bytes)) (text_is op)
    ∙ (ap operation_with (number_parts (name_of op) (numbers_of op) (plain_name op) (small_numbers op fits)) ∙ with_parts op fits)

pub operation_field : (op : TransformOp) → IsOperation op → IsField (operation_text op)
operation_field op fits =
    subst IsField (sym (text_is op)) (field-append (name_of op) (colons (numbers_of op)) (plain_field (name_of op) (plain_name op)) (colons_field (numbers_of op) (small_numbers op fits)))

-- ---- lists

operations_back : (ops : List TransformOp) → AllByRecursion IsOperation ops → all_read operation_read (map operation_text ops) ≡ Ok ops
operations_back [] fits = refl
operations_back (op ∷ ops) fits = rw (operation_back op fits.0, operations_back ops fits.1) refl

no_none_name : (op : TransformOp) → bytes_eq (name_of op ++ colons (numbers_of op)) (codes "none") ≡ false
no_none_name (Translate x y z) = refl
no_none_name (Scale x y z) = refl
no_none_name (Rotate x y z angle) = refl
no_none_name (Skew x y) = refl

no_none : (op : TransformOp) → bytes_eq (operation_text op) (codes "none") ≡ false
no_none op = ap (λ (bytes : List ℕ). bytes_eq bytes (codes "none")) (text_is op) ∙ no_none_name op

no_none_alone : (op : TransformOp) (ops : List TransformOp) → is_none_alone (operation_text op ∷ map operation_text ops) ≡ false
no_none_alone op [] = no_none op
no_none_alone op (next ∷ ops) = refl

pub list_back : (ops : List TransformOp) → IsList ops → list_read (list_fields ops) ≡ Ok ops
unfolding list_read
list_back [] fits = refl
list_back (op ∷ ops) fits = rw (no_none_alone op ops) (operations_back (op ∷ ops) fits.within)

length-map_text : (ops : List TransformOp) → length (map operation_text ops) ≡ length ops
length-map_text [] = refl
length-map_text (op ∷ ops) = ap suc (length-map_text ops)

pub list_long : (ops : List TransformOp) → IsList ops → is_list_long (list_fields ops) ≡ true
list_long [] fits = refl
list_long (op ∷ ops) fits =
    let many : suc (length (map operation_text ops)) ≤ MOST_OPERATIONS = omega (arith, length-map_text ops, fits.short) in
    let some : 1 ≤ suc (length (map operation_text ops)) = omega arith in
    rw (le-leb 1 (suc (length (map operation_text ops))) some, le-leb (suc (length (map operation_text ops))) MOST_OPERATIONS many) refl

operations_field : (ops : List TransformOp) → AllByRecursion IsOperation ops → AllByRecursion IsField (map operation_text ops)
operations_field [] fits = tt
operations_field (op ∷ ops) fits = (operation_field op fits.0, operations_field ops fits.1)

pub list_fields_fit : (ops : List TransformOp) → IsList ops → AllByRecursion IsField (list_fields ops)
unfolding are_within
list_fields_fit [] fits = (text_field (codes "none") refl, tt)
list_fields_fit (op ∷ ops) fits = operations_field (op ∷ ops) fits.within

-- ---- easings

-- where nothing is refused the first test passes, and the rest refuses nothing
pub first_ok : {F : Type 0} (a : Bool) (fault : F) (rest : Option F) → cond (not a) (Some fault) rest ≡ None → (a ≡ true) × (rest ≡ None)
first_ok true fault rest h = (refl, h)
first_ok false fault rest h = absurd cc

steps_text_is : (count : ℕ) (position : StepPosition) → ((codes "steps:" ++ decimal count) ++ codes ":") ++ position_text position ≡ codes "steps" ++ 58 ∷ (decimal count ++ 58 ∷ position_text position)
steps_text_is count position = ap (λ (bytes : List ℕ). codes "steps:" ++ bytes) (append_assoc (decimal count) (58 ∷ []) (position_text position))

plain_position : (position : StepPosition) → IsPlain (position_text position)
unfolding are_plain
plain_position JumpStart = plain_text (codes "jump-start") refl
plain_position JumpEnd = plain_text (codes "jump-end") refl
plain_position JumpNone = plain_text (codes "jump-none") refl
plain_position JumpBoth = plain_text (codes "jump-both") refl

plain_steps : IsPlain (codes "steps")
unfolding are_plain
plain_steps = plain_text (codes "steps") refl

plain_cubic : IsPlain (codes "cubic")
unfolding are_plain
plain_cubic = plain_text (codes "cubic") refl

few_steps : (s : StepParts) → AreSteps s → s.count ≤ MOST_INTERVALS
few_steps s fits =
    let a = first_ok (leb (least_count s.position) s.count && leb s.count MOST_INTERVALS) _ None fits in
    leb-true s.count MOST_INTERVALS (and_parts (leb (least_count s.position) s.count) (leb s.count MOST_INTERVALS) a.0).1

steps_parts : (s : StepParts) → AreSteps s → parts (codes "steps" ++ 58 ∷ (decimal s.count ++ 58 ∷ position_text s.position)) ≡ codes "steps" ∷ decimal s.count ∷ position_text s.position ∷ []
steps_parts s fits =
    let few = few_steps s fits in
    let small : s.count < 2 ^ 64 = omega arith in
    first_part (codes "steps") (decimal s.count ++ 58 ∷ position_text s.position) plain_steps
    ∙ ap (λ (ps : List (List ℕ)). codes "steps" ∷ ps) (first_part (decimal s.count) (position_text s.position) (decimal_plain s.count small)
    ∙ ap (λ (ps : List (List ℕ)). decimal s.count ∷ ps) (one_part (position_text s.position) (plain_position s.position)))

steps_back : (s : StepParts) → AreSteps s → steps_said (codes "steps" ∷ decimal s.count ∷ position_text s.position ∷ []) ≡ Some (Steps s)
unfolding steps_of
steps_back s fits = rw (natural_back MOST_INTERVALS s.count (few_steps s fits) (omega arith), position_back s.position, fits) refl

small_x : (x : ℤ) → is_x x ≡ true → unsigned_abs x < 2 ^ 63
small_x (pos n) h = let le : n ≤ END = leb-true n END (and_parts (int_le (pos 0) (pos n)) (leb n END) h).1 in omega arith
small_x (negsuc n) h = absurd cc

small_y : (y : ℤ) → is_y y ≡ true → unsigned_abs y < 2 ^ 63
small_y y h = let le : unsigned_abs y ≤ LARGEST_Y = leb-true (unsigned_abs y) LARGEST_Y h in omega arith

record SmallCubic (c : CubicParts) : Type 0 where
  x1 : unsigned_abs c.x1 < 2 ^ 63
  y1 : unsigned_abs c.y1 < 2 ^ 63
  x2 : unsigned_abs c.x2 < 2 ^ 63
  y2 : unsigned_abs c.y2 < 2 ^ 63

small_cubic : (c : CubicParts) → IsCubic c → SmallCubic c
small_cubic c fits =
    let xs = first_ok (is_x c.x1 && is_x c.x2) _ _ fits in
    let ys = first_ok (is_y c.y1 && is_y c.y2) _ None xs.1 in
    let x = and_parts (is_x c.x1) (is_x c.x2) xs.0 in
    let y = and_parts (is_y c.y1) (is_y c.y2) ys.0 in
    record { x1 = small_x c.x1 x.0; y1 = small_y c.y1 y.0; x2 = small_x c.x2 x.1; y2 = small_y c.y2 y.1 }

abbrev controls : CubicParts → List ℤ
controls c = c.x1 ∷ c.y1 ∷ c.x2 ∷ c.y2 ∷ []

cubic_text_is : (c : CubicParts) → cubic_text c.x1 c.y1 c.x2 c.y2 ≡ codes "cubic" ++ colons (controls c)
unfolding cubic_text axes_text
cubic_text_is c = ap (λ (bytes : List ℕ). codes "cubic:" ++ bytes) (four_texts (signed_decimal c.x1) (signed_decimal c.y1) (signed_decimal c.x2) (signed_decimal c.y2))

cubic_back : (c : CubicParts) → IsCubic c → cubic_said (codes "cubic" ∷ map signed_decimal (controls c)) ≡ Some (Cubic c)
unfolding cubic_through cubic_of
cubic_back c fits =
    let s = small_cubic c fits in
    rw (number_back c.x1 s.x1, number_back c.y1 s.y1, number_back c.x2 s.x2, number_back c.y2 s.y2, fits) refl

of_parts : (bytes : List ℕ) (ps : List (List ℕ)) (easing : Easing) → keyword_said bytes ≡ None → parts bytes ≡ ps → option_or (steps_said ps) (cubic_said ps) ≡ Some easing → easing_said bytes ≡ Some easing
of_parts bytes ps easing none cut said =
    rw none (ap (λ (qs : List (List ℕ)). option_or (steps_said qs) (cubic_said qs)) cut ∙ said)

pub easing_back : (easing : Easing) → IsEasing easing → easing_said (easing_text easing) ≡ Some easing
unfolding easing_text
easing_back Linear fits = refl
easing_back (Steps s) fits =
    ap easing_said (steps_text_is s.count s.position)
    ∙ of_parts (codes "steps" ++ 58 ∷ (decimal s.count ++ 58 ∷ position_text s.position)) (codes "steps" ∷ decimal s.count ∷ position_text s.position ∷ []) (Steps s) refl (steps_parts s fits) (rw (steps_back s fits) refl)
easing_back (Cubic c) fits =
    let s = small_cubic c fits in
    ap easing_said (cubic_text_is c)
    ∙ of_parts (codes "cubic" ++ colons (controls c)) (codes "cubic" ∷ map signed_decimal (controls c)) (Cubic c) refl
    (number_parts (codes "cubic") (controls c) plain_cubic (s.x1, (s.y1, (s.x2, (s.y2, tt))))) (cubic_back c fits)

pub easing_field : (easing : Easing) → IsEasing easing → IsField (easing_text easing)
unfolding easing_text are_within
easing_field Linear fits = text_field (codes "linear") refl
easing_field (Steps s) fits =
    let few = few_steps s fits in
    let small : s.count < 2 ^ 64 = omega arith in
    subst IsField (sym (steps_text_is s.count s.position)) (
    field-append (codes "steps") (58 ∷ (decimal s.count ++ 58 ∷ position_text s.position)) (text_field (codes "steps") refl)
    (refl, field-append (decimal s.count) (58 ∷ position_text s.position) (plain_field (decimal s.count) (decimal_plain s.count small)) (refl, plain_field (position_text s.position) (plain_position s.position)))
    )
easing_field (Cubic c) fits =
    let s = small_cubic c fits in
    subst IsField (sym (cubic_text_is c)) (field-append (codes "cubic") (colons (controls c)) (text_field (codes "cubic") refl) (colons_field (controls c) (s.x1, (s.y1, (s.x2, (s.y2, tt))))))

-- ---- timings

-- the numbers of a timing
abbrev pub numbers_of_timing : TimingParts → TimingNumbers
numbers_of_timing t = record {
  offset = t.offset;
  iterations = count_of t.iterations;
  iteration_start = pos t.iteration_start;
  direction = t.direction;
  fill = t.fill;
  rate = t.rate;
}

-- the ranges of a timing, one by one
pub record HasRanges (t : TimingParts) : Type 0 where
  pub offset : is_offset t.offset ≡ true
  pub iterations : are_iterations t.iterations ≡ true
  pub iteration_start : is_iteration_start t.iteration_start ≡ true
  pub rate : is_rate t.rate ≡ true

pub ranges_of : (t : TimingParts) → IsTiming t → HasRanges t
ranges_of t fits =
    let d = first_ok (is_duration t.duration) _ _ fits in
    let o = first_ok (is_offset t.offset) _ _ d.1 in
    let i = first_ok (are_iterations t.iterations) _ _ o.1 in
    let s = first_ok (is_iteration_start t.iteration_start) _ _ i.1 in
    let r = first_ok (is_rate t.rate) _ _ s.1 in
    record { offset = o.0; iterations = i.0; iteration_start = s.0; rate = r.0 }

other_duration : (was : Bool) (fault : TimingFault) (rest : Option TimingFault) → cond (not was) (Some fault) rest ≡ None → rest ≡ None
other_duration true fault rest h = h
other_duration false fault rest h = absurd cc

iterations_back : (iterations : Iterations) → are_iterations iterations ≡ true → iterations_of (count_of iterations) ≡ Some iterations
iterations_back (Finite count) h =
    let few : count ≤ MOST_ITERATIONS = leb-true count MOST_ITERATIONS h in
    let small : count ≤ 2 ^ 32 - 1 = omega arith in rw (le-leb count (2 ^ 32 - 1) small) refl
iterations_back Infinite h = refl

small_rate : (rate : ℤ) → is_rate rate ≡ true → unsigned_abs rate ≤ LARGEST_RATE
small_rate rate h = leb-true (unsigned_abs rate) LARGEST_RATE (and_parts (leb 1 (unsigned_abs rate)) (leb (unsigned_abs rate) LARGEST_RATE) h).1

rate_back : (rate : ℤ) → unsigned_abs rate ≤ LARGEST_RATE → rate_of rate ≡ Some rate
rate_back (pos n) h = let le : n ≤ 2 ^ 31 - 1 = omega (arith, h) in rw (le-leb n (2 ^ 31 - 1) le) refl
rate_back (negsuc n) h = let le : n ≤ 2 ^ 31 - 1 = omega (arith, h) in rw (le-leb n (2 ^ 31 - 1) le) refl

pub timing_back : (t : TimingParts) → IsTiming t → timing_of (numbers_of_timing t) ≡ Some (record t { duration = 1 })
unfolding timing_of timing_with
timing_back t fits =
    let r = ranges_of t fits in
    let first : t.iteration_start ≤ LAST_ITERATION_START = leb-true t.iteration_start LAST_ITERATION_START r.iteration_start in
    let start : t.iteration_start ≤ 2 ^ 32 - 1 = omega arith in
    let taken : refusal (record t { duration = 1 }) ≡ None = other_duration (is_duration t.duration) _ _ fits in
    rw (iterations_back t.iterations r.iterations, le-leb t.iteration_start (2 ^ 32 - 1) start, rate_back t.rate (small_rate t.rate r.rate), taken) refl

pub offset_small : (t : TimingParts) → IsTiming t → unsigned_abs t.offset < 2 ^ 63
offset_small t fits = let le : unsigned_abs t.offset ≤ LARGEST_OFFSET = leb-true (unsigned_abs t.offset) LARGEST_OFFSET (ranges_of t fits).offset in omega arith

pub rate_small : (t : TimingParts) → IsTiming t → unsigned_abs t.rate < 2 ^ 63
rate_small t fits = let le = small_rate t.rate (ranges_of t fits).rate in omega arith

pub start_small : (t : TimingParts) → IsTiming t → t.iteration_start < 2 ^ 63
start_small t fits = let le : t.iteration_start ≤ LAST_ITERATION_START = leb-true t.iteration_start LAST_ITERATION_START (ranges_of t fits).iteration_start in omega arith

-- What a field says is a value that may be.
use Rattle.std.proofs.Common.{◌≡◌, ℕ, ◌-◌, ◌^◌, ◌≤◌, Bool, true, false, cond, leb, ◌&&◌, ℤ, pos, negsuc, List, [], ◌∷◌, length, Option, Some, None, Result, Ok, Err, refl, ap, sym, subst, ◌∙◌, arith}
use Rattle.std.specs.Prelude.{option_and_then, option_map, codes, IfSome}
use Rattle.std.specs.Option.{option_or}
use Rattle.std.specs.Str.{bytes_eq}
use Rattle.std.specs.List.{AllByRecursion}
use Rattle.std.proofs.lemmas.Bool.{and_parts, leb-true}
use Rattle.anim_timeline.specs.declared.TheConstants.{LAST_TIME}
use Rattle.anim_timeline.specs.Timelines.{IsTime}
use Rattle.micro_time.specs.declared.TheConstants.{LONGEST_DURATION}
use Rattle.micro_time.specs.Timings.{TimingParts, IsTiming, timing_parts, refusal}
use Rattle.value_blend.specs.declared.TheConstants.{FULL_OPACITY}
use Rattle.value_blend.specs.Blends.{IsOpacity, IsNumber, is_number, opacity_of}
use Rattle.easing_fixed.specs.declared.TheConstants.{MOST_INTERVALS}
use Rattle.easing_fixed.specs.declared.easing.Easing.{Easing}
use Rattle.easing_fixed.specs.declared.easing.Easing.TheVariants.{Linear, Steps, Cubic}
use Rattle.easing_fixed.specs.declared.position.StepPosition.{StepPosition}
use Rattle.easing_fixed.specs.Easings.{IsEasing}
use Rattle.easing_fixed.specs.Steps.{step_parts, step_refusal}
use Rattle.easing_fixed.specs.Cubics.{cubic_parts, cubic_refusal}
use Rattle.keyframe_model.specs.Models.{IsId}
use Rattle.transform_ops.specs.declared.TheConstants.{MOST_OPERATIONS}
use Rattle.transform_ops.specs.declared.op.TransformOp.{TransformOp}
use Rattle.transform_ops.specs.declared.op.TransformOp.TheVariants.{Translate, Scale, Rotate, Skew}
use Rattle.transform_ops.specs.Operations.{IsOperation, is_operation}
use Rattle.transform_ops.specs.Lists.{IsList}
use Rattle.script_fields.specs.declared.fault.FieldFault.{FieldFault}
use Rattle.script_fields.specs.declared.values.TimingNumbers.{TimingNumbers}
use Rattle.script_fields.specs.Fields.{◌>>=◌, parts, all_read, unless}
use Rattle.script_fields.specs.Numbers.{natural_of, natural_kept, natural_within, number_said}
use Rattle.script_fields.specs.Values.{id_said, opacity_said, time_said, key_time_said, start_said, iterations_of, natural_of_number, rate_of, timing_with, timing_of}
use Rattle.script_fields.specs.Keywords.{position_said}
use Rattle.script_fields.specs.Easings.{keyword_said, steps_of, steps_said, cubic_of, cubic_through, cubic_said, point_said, easing_said}
use Rattle.script_fields.specs.Lists.{operation_read, is_none_alone, list_read}
use Rattle.script_fields.proofs.Items.{read_in_range}

-- ---- what says something

abbrev present : {A : Type 0} → A → Option A
present x = Some x

some_is : {A : Type 0} (x y : A) → present x ≡ present y → x ≡ y
some_is x y h = cc

pub bind_some : {A B : Type 0} (o : Option A) (f : A → Option B) (y : B) → option_and_then f o ≡ Some y → (x : A) × (o ≡ Some x) × (f x ≡ Some y)
bind_some None f y h = absurd cc
bind_some (Some x) f y h = (x, refl, h)

unless_is : {A F : Type 0} (reason : Option F) (x y : A) → unless reason x ≡ Some y → (reason ≡ None) × (x ≡ y)
unless_is None x y h = (refl, some_is x y h)
unless_is (Some f) x y h = absurd cc

-- ---- numbers

kept_is : (m n : ℕ) (in_range : Bool) → cond in_range (Some m) None ≡ Some n → (in_range ≡ true) × (m ≡ n)
kept_is m n true h = (refl, cc)
kept_is m n false h = absurd cc

within_is : (low high n : ℕ) (read : Option ℕ) → option_and_then (natural_kept low high) read ≡ Some n → (low ≤ n) × (n ≤ high)
within_is low high n None h = absurd cc
within_is low high n (Some m) h =
    let kept = kept_is m n (leb low m && leb m high) h in
    let range = and_parts (leb low m) (leb m high) kept.0 in
    (omega (arith, leb-true low m range.0, kept.1), omega (arith, leb-true m high range.1, kept.1))

number_is : (low high n : ℕ) (field : List ℕ) → natural_within low high field ≡ Some n → n ≤ high
number_is low high n field h = (within_is low high n (natural_of field) h).1

pub id_in_range : (field : List ℕ) (id : ℕ) → id_said field ≡ Some id → IsId id
unfolding id_said
id_in_range field id h = let most = number_is 0 (2 ^ 32 - 1) id field h in omega arith

pub time_in_range : (field : List ℕ) (time : ℕ) → time_said field ≡ Some time → IsTime time
unfolding time_said
time_in_range field time h = number_is 0 LAST_TIME time field h

pub key_time_in_range : (field : List ℕ) (time : ℕ) → key_time_said field ≡ Some time → time ≤ LONGEST_DURATION
unfolding key_time_said
key_time_in_range field time h = number_is 0 LONGEST_DURATION time field h

start_is : (test : Bool) (field : List ℕ) (read : Option ℕ) (start : Option ℕ) → read ≡ time_said field
    → cond test (Some None) (option_map Some read) ≡ Some start → IfSome start (λ time. time ≤ LAST_TIME)
start_is true field read start is h = subst (λ (s : Option ℕ). IfSome s (λ time. time ≤ LAST_TIME)) (some_is None start h) tt
start_is false field None start is h = absurd cc
start_is false field (Some time) start is h =
    subst (λ (s : Option ℕ). IfSome s (λ time. time ≤ LAST_TIME)) (some_is (Some time) start h) (time_in_range field time (sym is))

pub start_in_range : (field : List ℕ) (start : Option ℕ) → start_said field ≡ Some start → IfSome start (λ time. time ≤ LAST_TIME)
unfolding start_said
start_in_range field start h = start_is (bytes_eq field (codes "-")) field (time_said field) start refl h

opacity_is : (number : Option ℤ) (opacity : ℕ) → option_and_then opacity_of number ≡ Some opacity → IsOpacity opacity
opacity_is None opacity h = absurd cc
opacity_is (Some (negsuc n)) opacity h = absurd cc
opacity_is (Some (pos n)) opacity h =
    let kept = kept_is n opacity (leb n FULL_OPACITY) h in omega (arith, leb-true n FULL_OPACITY kept.0, kept.1)

pub opacity_in_range : (field : List ℕ) (opacity : ℕ) → opacity_said field ≡ Some opacity → IsOpacity opacity
unfolding opacity_said
opacity_in_range field opacity h = opacity_is (number_said field) opacity h

-- ---- timings

pub timing_in_range : (numbers : TimingNumbers) (timing : TimingParts) → timing_of numbers ≡ Some timing → IsTiming timing
unfolding timing_of timing_with
timing_in_range numbers timing h =
    let i = bind_some (iterations_of numbers.iterations) (λ iterations. option_and_then (λ start. option_and_then (λ rate. timing_with numbers.offset iterations start numbers.direction numbers.fill rate) (rate_of numbers.rate)) (natural_of_number numbers.iteration_start)) timing h in
    let s = bind_some (natural_of_number numbers.iteration_start) (λ start. option_and_then (λ rate. timing_with numbers.offset i.0 start numbers.direction numbers.fill rate) (rate_of numbers.rate)) timing i.2 in
    let r = bind_some (rate_of numbers.rate) (λ rate. timing_with numbers.offset i.0 s.0 numbers.direction numbers.fill rate) timing s.2 in
    let made = timing_parts 1 numbers.offset i.0 s.0 numbers.direction numbers.fill r.0 in
    let u = unless_is (refusal made) made timing r.2 in
    ap refusal (sym u.1) ∙ u.0

-- ---- easings

chain : (test : Bool) (first : Easing) (rest : Option Easing) (easing : Easing) → IsEasing first → (rest ≡ Some easing → IsEasing easing)
    → cond test (Some first) rest ≡ Some easing → IsEasing easing
chain true first rest easing fits more h = subst IsEasing (some_is first easing h) fits
chain false first rest easing fits more h = more h

nothing_said : (easing : Easing) → None ≡ present easing → IsEasing easing
nothing_said easing h = absurd cc

keyword_fits : (word : List ℕ) (easing : Easing) → keyword_said word ≡ Some easing → IsEasing easing
keyword_fits word easing h =
    chain (bytes_eq word (codes "linear")) Linear _ easing tt (
    chain (bytes_eq word (codes "ease")) _ _ easing refl (
    chain (bytes_eq word (codes "ease-in")) _ _ easing refl (
    chain (bytes_eq word (codes "ease-out")) _ _ easing refl (
    chain (bytes_eq word (codes "ease-in-out")) _ _ easing refl (
    chain (bytes_eq word (codes "step-start")) _ _ easing refl (
    chain (bytes_eq word (codes "step-end")) _ _ easing refl (nothing_said easing)
    )
    )
    )
    )
    )
    ) h

steps_fit : (count : ℕ) (position : StepPosition) (easing : Easing) → steps_of count position ≡ Some easing → IsEasing easing
unfolding steps_of
steps_fit count position easing h =
    let u = unless_is (step_refusal (step_parts count position)) (Steps (step_parts count position)) easing h in
    subst IsEasing u.1 u.0

guarded : {A : Type 0} (test : Bool) (read : Option A) (x : A) → cond test read None ≡ Some x → read ≡ Some x
guarded true read x h = h
guarded false read x h = absurd cc

steps_said_fit : (parts : List (List ℕ)) (easing : Easing) → steps_said parts ≡ Some easing → IsEasing easing
steps_said_fit [] easing h = absurd cc
steps_said_fit (a ∷ []) easing h = absurd cc
steps_said_fit (a ∷ b ∷ []) easing h = absurd cc
steps_said_fit (name ∷ count ∷ position ∷ []) easing h =
    let read = guarded (bytes_eq name (codes "steps")) _ easing h in
    let n = bind_some (natural_within 0 MOST_INTERVALS count) (λ n. option_and_then (steps_of n) (position_said position)) easing read in
    let p = bind_some (position_said position) (steps_of n.0) easing n.2 in
    steps_fit n.0 p.0 easing p.2
steps_said_fit (a ∷ b ∷ c ∷ d ∷ more) easing h = absurd cc

cubic_fits : (x1 y1 x2 y2 : ℤ) (easing : Easing) → cubic_of x1 y1 x2 y2 ≡ Some easing → IsEasing easing
unfolding cubic_of
cubic_fits x1 y1 x2 y2 easing h =
    let u = unless_is (cubic_refusal (cubic_parts x1 y1 x2 y2)) (Cubic (cubic_parts x1 y1 x2 y2)) easing h in
    subst IsEasing u.1 u.0

cubic_said_fits : (parts : List (List ℕ)) (easing : Easing) → cubic_said parts ≡ Some easing → IsEasing easing
unfolding cubic_through
cubic_said_fits [] easing h = absurd cc
cubic_said_fits (a ∷ []) easing h = absurd cc
cubic_said_fits (a ∷ b ∷ []) easing h = absurd cc
cubic_said_fits (a ∷ b ∷ c ∷ []) easing h = absurd cc
cubic_said_fits (a ∷ b ∷ c ∷ d ∷ []) easing h = absurd cc
cubic_said_fits (name ∷ x1 ∷ y1 ∷ x2 ∷ y2 ∷ []) easing h =
    let read = guarded (bytes_eq name (codes "cubic")) (cubic_through x1 y1 x2 y2) easing h in
    let first = bind_some (point_said x1 y1) (λ first. option_and_then (λ second. cubic_of first.0 first.1 second.0 second.1) (point_said x2 y2)) easing read in
    let second = bind_some (point_said x2 y2) (λ second. cubic_of first.0.0 first.0.1 second.0 second.1) easing first.2 in
    cubic_fits first.0.0 first.0.1 second.0.0 second.0.1 easing second.2
cubic_said_fits (a ∷ b ∷ c ∷ d ∷ e ∷ f ∷ more) easing h = absurd cc

either_said : (first second : Option Easing) (easing : Easing) → (first ≡ Some easing → IsEasing easing) → (second ≡ Some easing → IsEasing easing)
    → option_or first second ≡ Some easing → IsEasing easing
either_said None second easing f s h = s h
either_said (Some x) second easing f s h = f h

pub easing_in_range : (field : List ℕ) (easing : Easing) → easing_said field ≡ Some easing → IsEasing easing
easing_in_range field easing h =
    either_said (keyword_said field) (option_or (steps_said (parts field)) (cubic_said (parts field))) easing (keyword_fits field easing)
    (either_said (steps_said (parts field)) (cubic_said (parts field)) easing (steps_said_fit (parts field) easing) (cubic_said_fits (parts field) easing)) h

-- ---- lists

number_fits : (z : ℤ) → is_number z ≡ true → IsNumber z
number_fits z h = leb-true _ _ h

operation_fits : (op : TransformOp) → is_operation op ≡ true → IsOperation op
operation_fits (Translate x y z) h =
    let b = and_parts (is_number x && is_number y) (is_number z) h in
    let a = and_parts (is_number x) (is_number y) b.0 in
    (number_fits x a.0, number_fits y a.1, number_fits z b.1)
operation_fits (Scale x y z) h =
    let b = and_parts (is_number x && is_number y) (is_number z) h in
    let a = and_parts (is_number x) (is_number y) b.0 in
    (number_fits x a.0, number_fits y a.1, number_fits z b.1)
operation_fits (Rotate x y z angle) h =
    let c = and_parts (is_number x && is_number y && is_number z) (is_number angle) h in
    let b = and_parts (is_number x && is_number y) (is_number z) c.0 in
    let a = and_parts (is_number x) (is_number y) b.0 in
    (number_fits x a.0, number_fits y a.1, number_fits z b.1, number_fits angle c.1)
operation_fits (Skew x y) h = let a = and_parts (is_number x) (is_number y) h in (number_fits x a.0, number_fits y a.1)

pub bind_ok : {A B F : Type 0} (r : Result A F) (f : A → Result B F) (y : B) → (r >>= f) ≡ Ok y → (x : A) × (r ≡ Ok x) × (f x ≡ Ok y)
bind_ok (Ok x) f y h = (x, refl, h)
bind_ok (Err e) f y h = absurd cc

abbrev done : {A F : Type 0} → A → Result A F
done x = Ok x

ok_is : {A F : Type 0} (x y : A) → done {F = F} x ≡ done {F = F} y → x ≡ y
ok_is x y h = cc

record AreRead (fields : List (List ℕ)) (ops : List TransformOp) : Type 0 where
  many : length ops ≡ length fields
  within : AllByRecursion IsOperation ops

all_fit : (fields : List (List ℕ)) (ops : List TransformOp) → all_read operation_read fields ≡ Ok ops → AreRead fields ops
all_fit [] ops h = subst (λ (os : List TransformOp). AreRead [] os) (ok_is {F = FieldFault} [] ops h) (record { many = refl; within = tt })
all_fit (field ∷ others) ops h =
    let first = bind_ok (operation_read field) (λ x. all_read operation_read others >>= λ xs. Ok (x ∷ xs)) ops h in
    let more = bind_ok (all_read operation_read others) (λ xs. Ok (first.0 ∷ xs)) ops first.2 in
    let rest = all_fit others more.0 more.1 in
    subst (λ (os : List TransformOp). AreRead (field ∷ others) os) (ok_is {F = FieldFault} (first.0 ∷ more.0) ops more.2) (record {
      many = omega (arith, rest.many);
      within = (operation_fits first.0 (read_in_range field first.0 first.1), rest.within);
    })

list_is : (none : Bool) (fields : List (List ℕ)) (ops : List TransformOp) → length fields ≤ MOST_OPERATIONS
    → cond none (Ok []) (all_read operation_read fields) ≡ Ok ops → IsList ops
list_is true fields ops short h = subst IsList (ok_is {F = FieldFault} [] ops h) (record { short = omega arith; within = tt })
list_is false fields ops short h =
    let fit = all_fit fields ops h in record { short = omega (arith, fit.many, short); within = fit.within }

pub list_in_range : (fields : List (List ℕ)) (ops : List TransformOp) → length fields ≤ MOST_OPERATIONS → list_read fields ≡ Ok ops → IsList ops
unfolding list_read
list_in_range fields ops short h = list_is (is_none_alone fields) fields ops short h

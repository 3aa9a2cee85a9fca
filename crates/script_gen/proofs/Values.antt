-- What a number gives is of values that may be.
use Rattle.std.proofs.Common.{◌≡◌, ℕ, ◌+◌, ◌*◌, ◌≤◌, Bool, true, false, ltb, leb, [], ◌∷◌, ◌++◌, None, refl, length, arith}
use Rattle.std.specs.Prelude.{◌%◌, ◌==◌, if◌then◌else◌}
use Rattle.std.specs.List.{AllByRecursion}
use Rattle.std.proofs.lemmas.Bool.{lt-ltb, le-leb}
use Rattle.std.proofs.lemmas.List.Elements.{All-from_recursion}
use Rattle.micro_time.specs.declared.TheConstants.{LONGEST_DURATION, MOST_ITERATIONS}
use Rattle.micro_time.specs.declared.direction.Direction.{Direction}
use Rattle.micro_time.specs.declared.direction.Direction.TheVariants.{Normal}
use Rattle.micro_time.specs.Timings.{IsTiming}
use Rattle.easing_fixed.specs.Easings.{IsEasing}
use Rattle.value_blend.specs.Blends.{IsOpacity}
use Rattle.transform_ops.specs.Lists.{IsList}
use Rattle.curve_keys.specs.Curves.{IsKey, IsCurve, curve_refusal}
use Rattle.keyframe_model.specs.Models.{IsModel}
use Rattle.tree_commit.specs.Edits.{AddElement, RemoveElement, AddModel, RemoveModel, OnElements, OnModels}
use Rattle.run_rules.specs.Scripts.{StepOfMain, EditStep, IsStep}
use Rattle.script_gen.specs.declared.TheConstants.{MOST_GENERATED}
use Rattle.script_gen.proofs.Numbers.{all-append}
use Rattle.script_gen.specs.Generated.{timing_of, direction_of, easing_of, fading, sliding, translation, opacity_model, transform_model, first_look, where_divides, commit_and_drain, adding_steps, dropping_steps}

-- ---- curves

pub timing_may_be : (duration iterations : ℕ) (direction : Direction) → 1 ≤ duration → duration ≤ LONGEST_DURATION → iterations ≤ MOST_ITERATIONS
    → IsTiming (timing_of duration iterations direction)
timing_may_be duration iterations direction some short few =
    let a : leb 1 duration ≡ true = le-leb _ _ some in
    let b : leb duration LONGEST_DURATION ≡ true = le-leb _ _ short in
    let c : leb iterations MOST_ITERATIONS ≡ true = le-leb _ _ few in
    rw (a, b, c) refl

easing_may_be : (even : Bool) → IsEasing (if even then easing_of 0 else easing_of 1)
easing_may_be true = refl
easing_may_be false = tt

pub fading_taken : (i : ℕ) → curve_refusal (fading i).keys ≡ None
fading_taken i =
    let rises : ltb 0 (100000 + 1000 * i) ≡ true = lt-ltb _ _ (omega arith) in
    rw rises refl

pub fading_may_be : (i : ℕ) → i ≤ MOST_GENERATED → IsCurve IsOpacity (fading i)
fading_may_be i few = record {
  taken = fading_taken i;
  each =
      let keys : AllByRecursion (IsKey IsOpacity) (fading i).keys =
      (record { time = omega arith; easing = tt; value = omega arith }, (record { time = omega arith; easing = tt; value = omega arith }, tt)) in
      All-from_recursion (IsKey IsOpacity) (fading i).keys keys;
  easing = easing_may_be _;
}

pub translation_may_be : (x : ℕ) → x ≤ 1000 * MOST_GENERATED → IsList (translation x)
translation_may_be x small = record { short = omega arith; within = ((omega arith, omega arith, omega arith), tt) }

pub sliding_may_be : (i : ℕ) → i ≤ MOST_GENERATED → IsCurve IsList (sliding i)
sliding_may_be i few = record {
  taken = refl;
  each =
      let keys : AllByRecursion (IsKey IsList) (sliding i).keys = (
        record { time = omega arith; easing = refl; value = translation_may_be 0 (omega arith) },
        (record { time = omega arith; easing = tt; value = translation_may_be (1000 * i) (omega arith) }, tt),
      ) in
      All-from_recursion (IsKey IsList) (sliding i).keys keys;
  easing = tt;
}

-- ---- models

opacity_model_may_be : (i : ℕ) → i ≤ MOST_GENERATED → IsModel (opacity_model i)
unfolding opacity_model
opacity_model_may_be i few = record {
  id = omega arith;
  group = omega arith;
  element = omega arith;
  timeline = omega arith;
  start = tt;
  timing = timing_may_be (100000 + 1000 * i) (1000 * (1 + i % 3)) (direction_of i) (omega arith) (omega arith) (omega arith);
  duration = refl;
  curve = fading_may_be i few;
}

transform_model_may_be : (i : ℕ) → i ≤ MOST_GENERATED → IsModel (transform_model i)
unfolding transform_model
transform_model_may_be i few = record {
  id = omega arith;
  group = omega arith;
  element = omega arith;
  timeline = omega arith;
  start = tt;
  timing = timing_may_be 200000 1000 Normal (omega arith) (omega arith) (omega arith);
  duration = refl;
  curve = sliding_may_be i few;
}

-- ---- steps

maybe_commit : (divides : Bool) → AllByRecursion IsStep (if divides then commit_and_drain else [])
maybe_commit true = (tt, (tt, tt))
maybe_commit false = tt

pub adding_may_be : (i : ℕ) → i ≤ MOST_GENERATED → AllByRecursion IsStep (adding_steps i)
unfolding adding_steps
adding_may_be i few = (
  (omega arith, record { opacity = omega arith; transform = translation_may_be 0 (omega arith) }),
  (opacity_model_may_be i few, (transform_model_may_be i few, maybe_commit _)),
)

maybe_one : (divides : Bool) (step : StepOfMain) → IsStep step → AllByRecursion IsStep (if divides then step ∷ [] else [])
maybe_one true step so = (so, tt)
maybe_one false step so = tt

pub dropping_may_be : (i : ℕ) → i ≤ MOST_GENERATED → AllByRecursion IsStep (dropping_steps i)
unfolding dropping_steps
dropping_may_be i few =
    all-append IsStep (where_divides 5 i (EditStep (OnModels (RemoveModel (2 * i))) ∷ [])) (where_divides 7 i (EditStep (OnElements (RemoveElement i)) ∷ []))
    (maybe_one (i % 5 == 0) (EditStep (OnModels (RemoveModel (2 * i)))) (omega arith)) (maybe_one (i % 7 == 0) (EditStep (OnElements (RemoveElement i))) (omega arith))

-- ---- how many they are

add_length : (divides : Bool) (a b c : StepOfMain) → length (a ∷ b ∷ c ∷ (if divides then commit_and_drain else [])) ≤ 5
add_length true a b c = omega arith
add_length false a b c = omega arith

pub adding_is_short : (i : ℕ) → length (adding_steps i) ≤ 5
unfolding adding_steps
adding_is_short i =
    add_length _ (EditStep (OnElements (AddElement i first_look))) (EditStep (OnModels (AddModel (opacity_model i)))) (EditStep (OnModels (AddModel (transform_model i))))

drop_length : (drops_model drops_element : Bool) (a b : StepOfMain)
    → length ((if drops_model then a ∷ [] else []) ++ (if drops_element then b ∷ [] else [])) ≤ 2
drop_length true true a b = omega arith
drop_length true false a b = omega arith
drop_length false true a b = omega arith
drop_length false false a b = omega arith

pub dropping_is_short : (i : ℕ) → length (dropping_steps i) ≤ 2
unfolding dropping_steps
dropping_is_short i = drop_length _ _ _ _

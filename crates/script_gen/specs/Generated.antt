-- The script that is made from a number n: n elements with two models each, which come and go, and 4 n ticks.
use Rattle.std.specs.Prelude.{ℕ, zero, suc, ◌+◌, ◌-◌, ◌*◌, ◌%◌, ◌==◌, min, if◌then◌else◌, pos, List, [], ◌∷◌, ◌++◌, length, replicate, None}
use Rattle.std.specs.List.{flat_map, range_with_len}
use Rattle.anim_names.specs.declared.lane.Lane.{Lane}
use Rattle.anim_names.specs.declared.lane.Lane.TheVariants.{Main, Compositor}
use Rattle.anim_delegate.specs.declared.policy.Policy.TheVariants.{Auto}
use Rattle.micro_time.specs.declared.direction.Direction.{Direction}
use Rattle.micro_time.specs.declared.direction.Direction.TheVariants.{Normal, Reverse, Alternate, AlternateReverse}
use Rattle.micro_time.specs.declared.fill.Fill.TheVariants.{Both}
use Rattle.micro_time.specs.declared.iterations.Iterations.TheVariants.{Finite}
use Rattle.micro_time.specs.Timings.{TimingParts, timing_parts}
use Rattle.easing_fixed.specs.declared.easing.Easing.{Easing}
use Rattle.easing_fixed.specs.declared.easing.Easing.TheVariants.{Linear, Steps, Cubic}
use Rattle.easing_fixed.specs.declared.position.StepPosition.TheVariants.{JumpEnd}
use Rattle.easing_fixed.specs.Steps.{step_parts}
use Rattle.easing_fixed.specs.Cubics.{cubic_parts}
use Rattle.transform_ops.specs.declared.op.TransformOp.{TransformOp}
use Rattle.transform_ops.specs.declared.op.TransformOp.TheVariants.{Translate}
use Rattle.curve_keys.specs.declared.key.Key.{Key}
use Rattle.curve_keys.specs.Curves.{Keyframes, keyframes}
use Rattle.keyframe_model.specs.Models.{PropertyCurve, OpacityCurve, TransformCurve, curve_duration, Spec, model_parts}
use Rattle.run_rules.specs.declared.compositor_step.CompositorStep.{CompositorStep}
use Rattle.run_rules.specs.declared.compositor_step.CompositorStep.TheVariants.{Pull, Activate, Tick}
use Rattle.tree_commit.specs.Trees.{Look}
use Rattle.tree_commit.specs.Edits.{AddElement, RemoveElement, AddTimeline, AddModel, RemoveModel, OnElements, OnTimelines, OnModels}
use Rattle.run_rules.specs.Scripts.{StepOfMain, EditStep, CommitStep, DrainStep, ScriptLists}
use Rattle.anim_names.specs.declared.version.Version.TheVariants.{One}
use Rattle.frame_script.specs.Scripts.{script_parts}

-- ---- the two models of a number i: of group i, on element i and timeline 1, without a given start

abbrev pub key_of : {V : Type 0} → ℕ → Easing → V → Key V
key_of time easing value = record { time = time; easing = easing; value = value }

-- one translation, along x
abbrev pub translation : ℕ → List TransformOp
translation x = Translate (pos x) (pos 0) (pos 0) ∷ []

-- a curve of this length, this number of thousandths of an iteration, in this direction
abbrev pub timing_of : ℕ → ℕ → Direction → TimingParts
timing_of duration iterations direction = timing_parts duration (pos 0) (Finite iterations) 0 direction Both (pos 1000)

abbrev pub model_of : ℕ → ℕ → ℕ → Direction → PropertyCurve → Spec
model_of i id iterations direction curve =
    model_parts id i i 1 None (timing_of (curve_duration curve) iterations direction) Auto curve

abbrev pub direction_of : ℕ → Direction
direction_of i =
    if i % 4 == 0 then Normal else
    if i % 4 == 1 then Reverse else
    if i % 4 == 2 then Alternate else
    AlternateReverse

-- the keyword `ease` for even numbers
abbrev pub easing_of : ℕ → Easing
easing_of i = if i % 2 == 0 then Cubic (cubic_parts (pos 250000) (pos 100000) (pos 250000) (pos 1000000)) else Linear

-- it fades out
abbrev pub fading : ℕ → Keyframes ℕ
fading i = keyframes (key_of 0 Linear 1000000 ∷ key_of (100000 + 1000 * i) Linear 0 ∷ []) (easing_of i)

-- it moves along x, in four jumps
abbrev pub sliding : ℕ → Keyframes (List TransformOp)
sliding i =
    keyframes (key_of 0 (Steps (step_parts 4 JumpEnd)) (translation 0) ∷ key_of 200000 Linear (translation (1000 * i)) ∷ []) Linear

unfoldable pub opacity_model : ℕ → Spec
opacity_model i = model_of i (2 * i - 1) (1000 * (1 + i % 3)) (direction_of i) (OpacityCurve (fading i))

unfoldable pub transform_model : ℕ → Spec
transform_model i = model_of i (2 * i) 1000 Normal (TransformCurve (sliding i))

-- ---- main's steps

-- these steps where a number divides i, and else none
abbrev pub where_divides : {A : Type 0} → ℕ → ℕ → List A → List A
where_divides number i steps = if i % number == 0 then steps else []

abbrev pub commit_and_drain : List StepOfMain
commit_and_drain = CommitStep ∷ DrainStep ∷ []

-- an opaque element where it stands
abbrev pub first_look : Look
first_look = record { opacity = 1000000; transform = translation 0 }

-- element i, its two models, and where 8 divides i a commit
unfoldable pub adding_steps : ℕ → List StepOfMain
adding_steps i =
    EditStep (OnElements (AddElement i first_look)) ∷ EditStep (OnModels (AddModel (opacity_model i))) ∷ EditStep (OnModels (AddModel (transform_model i)))
    ∷ where_divides 8 i commit_and_drain

-- where 5 divides i its second model goes, and where 7 divides i element i
unfoldable pub dropping_steps : ℕ → List StepOfMain
dropping_steps i =
    where_divides 5 i (EditStep (OnModels (RemoveModel (2 * i))) ∷ []) ++ where_divides 7 i (EditStep (OnElements (RemoveElement i)) ∷ [])

-- all is added, and committed, and then some of it is dropped, and that is committed
unfoldable pub main_steps : ℕ → List StepOfMain
main_steps n =
    EditStep (OnTimelines (AddTimeline 1 0)) ∷ flat_map adding_steps (range_with_len 1 n) ++ commit_and_drain
    ++ flat_map dropping_steps (range_with_len 1 n) ++ commit_and_drain

-- ---- the compositor's steps

-- the tick of number j, which counts from 0; where 4 divides j what main committed is pulled and activated after it
unfoldable pub ticking_steps : ℕ → List CompositorStep
ticking_steps j = Tick (16667 * j) ∷ where_divides 4 j (Pull ∷ Activate ∷ [])

unfoldable pub compositor_steps : ℕ → List CompositorStep
compositor_steps n = flat_map ticking_steps (range_with_len 0 (4 * n))

-- ---- the word

-- In each round main makes three steps, or as many as it has left, and then the compositor one. What main has left
-- when the compositor has none comes last.
unfoldable pub word_of_rounds : ℕ → ℕ → List Lane
word_of_rounds main zero = replicate main Main
word_of_rounds main (suc compositor) = replicate (min 3 main) Main ++ Compositor ∷ word_of_rounds (main - 3) compositor

-- ---- the script

unfoldable pub generated_script : ℕ → ScriptLists
generated_script n =
    script_parts One (main_steps n) (compositor_steps n) (word_of_rounds (length (main_steps n)) (length (compositor_steps n)))

-- Texts of which the reading is worked out.
use Rattle.std.specs.Prelude.{ℕ, ◌-◌, List, [], ◌∷◌, ◌++◌, take, drop, codes, pos, negsuc, None, Some}
use Rattle.std.specs.List.{flat_map}
use Rattle.anim_names.specs.declared.lane.Lane.TheVariants.{Main, Compositor}
use Rattle.anim_names.specs.declared.version.Version.TheVariants.{One}
use Rattle.anim_delegate.specs.declared.policy.Policy.TheVariants.{Auto, Manual}
use Rattle.micro_time.specs.declared.direction.Direction.TheVariants.{Normal, AlternateReverse}
use Rattle.micro_time.specs.declared.fill.Fill.TheVariants.{Neither, Both}
use Rattle.micro_time.specs.declared.iterations.Iterations.TheVariants.{Finite, Infinite}
use Rattle.micro_time.specs.Timings.{timing_parts}
use Rattle.easing_fixed.specs.declared.easing.Easing.{Easing}
use Rattle.easing_fixed.specs.declared.easing.Easing.TheVariants.{Linear, Steps, Cubic}
use Rattle.easing_fixed.specs.declared.position.StepPosition.TheVariants.{JumpStart, JumpNone}
use Rattle.easing_fixed.specs.Steps.{step_parts}
use Rattle.easing_fixed.specs.Cubics.{cubic_parts}
use Rattle.transform_ops.specs.declared.op.TransformOp.{TransformOp}
use Rattle.transform_ops.specs.declared.op.TransformOp.TheVariants.{Translate, Scale, Rotate, Skew}
use Rattle.curve_keys.specs.declared.key.Key.{Key}
use Rattle.curve_keys.specs.Curves.{keyframes}
use Rattle.keyframe_model.specs.Models.{OpacityCurve, TransformCurve, OpacityValue, TransformValue, model_parts}
use Rattle.run_rules.specs.declared.compositor_step.CompositorStep.TheVariants.{Pull, Activate, Tick}
use Rattle.tree_commit.specs.Edits.{OnElements, OnTimelines, OnModels, AddElement, RemoveElement, SetOwn, AddTimeline, AddModel, RemoveModel}
use Rattle.run_rules.specs.Scripts.{EditStep, CommitStep, DrainStep, ScriptLists}

-- each line ends in a line feed
abbrev pub ended : List ℕ → List ℕ
ended line = line ++ 10 ∷ []

abbrev pub text_of : List (List ℕ) → List ℕ
text_of lines = flat_map ended lines

-- the lines with another in place of the one of this number
abbrev pub with_line : ℕ → List ℕ → List (List ℕ) → List (List ℕ)
with_line number line lines = take (number - 1) lines ++ line ∷ drop number lines

-- ---- no step, one fade, and all kinds of lines

abbrev pub empty : List (List ℕ)
empty = codes "anim 1" ∷ codes "main" ∷ codes "compositor" ∷ codes "word -" ∷ codes "end" ∷ []

abbrev pub empty_script : ScriptLists
empty_script = record { version = One; main = []; compositor = []; word = [] }

abbrev pub fade : List (List ℕ)
fade =
    codes "anim 1"
    ∷ codes "main"
    ∷ codes "timeline 1 0"
    ∷ codes "element 1 1000000 none"
    ∷ codes "model 1 1 1 1 opacity - 0 1000 0 normal none 1000 auto linear 2"
    ∷ codes "key 0 linear 0"
    ∷ codes "key 1000000 linear 1000000"
    ∷ codes "commit"
    ∷ codes "compositor"
    ∷ codes "pull"
    ∷ codes "activate"
    ∷ codes "tick 16000"
    ∷ codes "tick 349333"
    ∷ codes "tick 516000"
    ∷ codes "word MMMMCCCCC"
    ∷ codes "end"
    ∷ []

abbrev key : {V : Type 0} → ℕ → Easing → V → Key V
key time easing value = record { time = time; easing = easing; value = value }

abbrev pub fade_script : ScriptLists
fade_script = record {
  version = One;
  main = EditStep (OnTimelines (AddTimeline 1 0))
      ∷ EditStep (OnElements (AddElement 1 (record { opacity = 1000000; transform = [] })))
      ∷ EditStep (OnModels (AddModel (model_parts 1 1 1 1 None (timing_parts 1000000 (pos 0) (Finite 1000) 0 Normal Neither (pos 1000)) Auto (OpacityCurve (keyframes (key 0 Linear 0 ∷ key 1000000 Linear 1000000 ∷ []) Linear)))))
      ∷ CommitStep
      ∷ [];
  compositor = Pull ∷ Activate ∷ Tick 16000 ∷ Tick 349333 ∷ Tick 516000 ∷ [];
  word = Main ∷ Main ∷ Main ∷ Main ∷ Compositor ∷ Compositor ∷ Compositor ∷ Compositor ∷ Compositor ∷ [];
}

-- lines of all kinds, with some that are skipped, one of them amid the keys
abbrev pub all_kinds : List (List ℕ)
all_kinds =
    []
    ∷ codes "# all kinds of lines"
    ∷ codes "anim 1"
    ∷ codes "main"
    ∷ codes "timeline 4294967295 1125899906842624"
    ∷ codes "element 7 0 translate:1:-2:3 scale:1000000:1:0 rotate:0:0:1:-90000 skew:-1:2"
    ∷ codes "model 2 3 7 4294967295 transform 5 -1000 infinite 500 alternate-reverse both 1 manual ease-in 3"
    ∷ codes "key 0 steps:4:start none"
    ∷ codes "# a key later"
    ∷ codes "key 10 steps:2:jump-none translate:1:1:1 translate:2:2:2"
    ∷ codes "key 68719476736 cubic:0:-10000000:1000000:5 skew:0:0"
    ∷ codes "opacity 7 250000"
    ∷ codes "transform 7 none"
    ∷ codes "drain"
    ∷ codes "drop-model 2"
    ∷ codes "drop-element 7"
    ∷ codes "commit"
    ∷ codes "compositor"
    ∷ codes "tick 0"
    ∷ codes "tick 1125899906842624"
    ∷ codes "word CMMMMMMMMMC"
    ∷ []
    ∷ codes "end"
    ∷ codes "# the end"
    ∷ []

abbrev four : List TransformOp
four =
    Translate (pos 1) (negsuc 1) (pos 3)
    ∷ Scale (pos 1000000) (pos 1) (pos 0)
    ∷ Rotate (pos 0) (pos 0) (pos 1) (negsuc 89999)
    ∷ Skew (negsuc 0) (pos 2)
    ∷ []

abbrev three_keys : List (Key (List TransformOp))
three_keys =
    key 0 (Steps (step_parts 4 JumpStart)) []
    ∷ key 10 (Steps (step_parts 2 JumpNone)) (Translate (pos 1) (pos 1) (pos 1) ∷ Translate (pos 2) (pos 2) (pos 2) ∷ [])
    ∷ key 68719476736 (Cubic (cubic_parts (pos 0) (negsuc 9999999) (pos 1000000) (pos 5))) (Skew (pos 0) (pos 0) ∷ [])
    ∷ []

abbrev pub all_kinds_script : ScriptLists
all_kinds_script = record {
  version = One;
  main = EditStep (OnTimelines (AddTimeline 4294967295 1125899906842624))
      ∷ EditStep (OnElements (AddElement 7 (record { opacity = 0; transform = four })))
      ∷ EditStep (OnModels (AddModel (model_parts 2 3 7 4294967295 (Some 5) (timing_parts 68719476736 (negsuc 999) Infinite 500 AlternateReverse Both (pos 1)) Manual (TransformCurve (keyframes three_keys (Cubic (cubic_parts (pos 420000) (pos 0) (pos 1000000) (pos 1000000))))))))
      ∷ EditStep (OnElements (SetOwn 7 (OpacityValue 250000)))
      ∷ EditStep (OnElements (SetOwn 7 (TransformValue [])))
      ∷ DrainStep
      ∷ EditStep (OnModels (RemoveModel 2))
      ∷ EditStep (OnElements (RemoveElement 7))
      ∷ CommitStep
      ∷ [];
  compositor = Tick 0 ∷ Tick 1125899906842624 ∷ [];
  word = Compositor ∷ Main ∷ Main ∷ Main ∷ Main ∷ Main ∷ Main ∷ Main ∷ Main ∷ Main ∷ Compositor ∷ [];
}

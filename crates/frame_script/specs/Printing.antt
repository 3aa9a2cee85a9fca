-- A script as text: a line of fields for each step and each key, and no line that is skipped.
use Rattle.std.specs.Prelude.{ℕ, List, [], ◌∷◌, ◌++◌, length, codes}
use Rattle.std.specs.List.{flat_map}
use Rattle.std.specs.Fmt.{decimal, signed_decimal}
use Rattle.anim_delegate.specs.declared.policy.Policy.{Policy}
use Rattle.easing_fixed.specs.declared.easing.Easing.{Easing}
use Rattle.curve_keys.specs.declared.key.Key.{Key}
use Rattle.micro_time.specs.Timings.{TimingParts}
use Rattle.keyframe_model.specs.Models.{Spec, PropertyCurve, OpacityCurve, TransformCurve, property_of_curve, PropertyValue, OpacityValue, TransformValue, property_of_value}
use Rattle.run_rules.specs.declared.compositor_step.CompositorStep.{CompositorStep}
use Rattle.run_rules.specs.declared.compositor_step.CompositorStep.TheVariants.{Pull, Activate, Tick}
use Rattle.tree_commit.specs.Edits.{Change, ElementChange, TimelineChange, ModelChange, OnElements, OnTimelines, OnModels, AddElement, RemoveElement, SetOwn, AddTimeline, AddModel, RemoveModel}
use Rattle.tree_commit.specs.Trees.{Look}
use Rattle.run_rules.specs.Scripts.{StepOfMain, EditStep, CommitStep, DrainStep, ScriptLists}
use Rattle.script_fields.specs.Fields.{joined}
use Rattle.frame_script.specs.Headers.{header_text}
use Rattle.script_fields.specs.Printed.{property_text, direction_text, fill_text, policy_text, word_text, start_text, iterations_text, easing_text, list_fields}

-- a line of fields: it ends in a line feed
abbrev pub line : List (List ℕ) → List ℕ
line fields = joined fields ++ 10 ∷ []

-- ---- values, keys and models

-- the fields of an opacity
abbrev pub opacity_fields : ℕ → List (List ℕ)
opacity_fields opacity = decimal opacity ∷ []

-- the fields of a value
abbrev pub value_fields : PropertyValue → List (List ℕ)
value_fields (OpacityValue opacity) = opacity_fields opacity
value_fields (TransformValue list) = list_fields list

-- `key TIME EASING VALUE`
abbrev pub key_fields : {V : Type 0} → (V → List (List ℕ)) → Key V → List (List ℕ)
key_fields value_fields key = codes "key" ∷ decimal key.time ∷ easing_text key.easing ∷ value_fields key.value

abbrev pub key_line : {V : Type 0} → (V → List (List ℕ)) → Key V → List ℕ
key_line value_fields key = line (key_fields value_fields key)

abbrev pub key_lines : PropertyCurve → List ℕ
key_lines (OpacityCurve curve) = flat_map (key_line opacity_fields) curve.keys
key_lines (TransformCurve curve) = flat_map (key_line list_fields) curve.keys

abbrev pub keys_there : PropertyCurve → ℕ
keys_there (OpacityCurve curve) = length curve.keys
keys_there (TransformCurve curve) = length curve.keys

abbrev pub curve_easing : PropertyCurve → Easing
curve_easing (OpacityCurve curve) = curve.easing
curve_easing (TransformCurve curve) = curve.easing

-- `POLICY EASING KEYS`
abbrev pub end_fields : Policy → PropertyCurve → List (List ℕ)
end_fields policy curve = policy_text policy ∷ easing_text (curve_easing curve) ∷ decimal (keys_there curve) ∷ []

-- `OFFSET ITERATIONS ISTART DIRECTION FILL RATE`, and what stands behind them
abbrev pub timing_fields : TimingParts → List (List ℕ) → List (List ℕ)
timing_fields timing behind =
    signed_decimal timing.offset ∷ iterations_text timing.iterations ∷ decimal timing.iteration_start ∷ direction_text timing.direction
    ∷ fill_text timing.fill ∷ signed_decimal timing.rate ∷ behind

-- `model ID GROUP ELEMENT TIMELINE PROPERTY START`
abbrev pub names_fields : Spec → List (List ℕ)
names_fields model =
    codes "model" ∷ decimal model.id ∷ decimal model.group ∷ decimal model.element ∷ decimal model.timeline
    ∷ property_text (property_of_curve model.curve) ∷ start_text model.start ∷ []

-- the same, and then the timing and the curve
abbrev pub model_fields : Spec → List (List ℕ)
model_fields model =
    codes "model" ∷ decimal model.id ∷ decimal model.group ∷ decimal model.element ∷ decimal model.timeline
    ∷ property_text (property_of_curve model.curve) ∷ start_text model.start ∷ timing_fields model.timing (end_fields model.policy model.curve)

-- the line of a model, and one for each of its keys
unfoldable pub model_lines : Spec → List ℕ
model_lines model = line (model_fields model) ++ key_lines model.curve

-- ---- steps

-- `OPACITY LIST`
abbrev pub look_fields : Look → List (List ℕ)
look_fields look = decimal look.opacity ∷ list_fields look.transform

abbrev pub element_lines : ElementChange → List ℕ
element_lines (AddElement id look) = line (codes "element" ∷ decimal id ∷ look_fields look)
element_lines (RemoveElement id) = line (codes "drop-element" ∷ decimal id ∷ [])
element_lines (SetOwn id value) = line (property_text (property_of_value value) ∷ decimal id ∷ value_fields value)

abbrev pub timeline_lines : TimelineChange → List ℕ
timeline_lines (AddTimeline id origin) = line (codes "timeline" ∷ decimal id ∷ decimal origin ∷ [])

abbrev pub lines_of_model : ModelChange → List ℕ
lines_of_model (AddModel model) = model_lines model
lines_of_model (RemoveModel id) = line (codes "drop-model" ∷ decimal id ∷ [])

unfoldable pub edit_lines : Change → List ℕ
edit_lines (OnElements change) = element_lines change
edit_lines (OnTimelines change) = timeline_lines change
edit_lines (OnModels change) = lines_of_model change

abbrev pub step_lines : StepOfMain → List ℕ
step_lines (EditStep change) = edit_lines change
step_lines CommitStep = line (codes "commit" ∷ [])
step_lines DrainStep = line (codes "drain" ∷ [])

abbrev pub compositor_line : CompositorStep → List ℕ
compositor_line Pull = line (codes "pull" ∷ [])
compositor_line Activate = line (codes "activate" ∷ [])
compositor_line (Tick time) = line (codes "tick" ∷ decimal time ∷ [])

-- ---- scripts

unfoldable pub script_text : ScriptLists → List ℕ
script_text script =
    line (header_text script.version ∷ []) ++ line (codes "main" ∷ []) ++ flat_map step_lines script.main ++ line (codes "compositor" ∷ [])
    ++ flat_map compositor_line script.compositor ++ line (codes "word" ∷ word_text script.word ∷ []) ++ line (codes "end" ∷ [])

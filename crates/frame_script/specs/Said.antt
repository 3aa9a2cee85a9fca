-- What the lines of a script say, by their fields, apart from whether that is allowed where they stand. The number of
-- the fields is judged first, and then each field from left to right.
use Rattle.std.specs.Prelude.{ℕ, ◌==◌, ◌&&◌, nat_le, Bool, true, false, ℤ, pos, negsuc, List, [], ◌∷◌, length, Option, Some, None, Result, Ok, Err, ok_or, if◌then◌else◌, codes}
use Rattle.std.specs.Str.{bytes_eq}
use Rattle.anim_names.specs.declared.lane.Lane.{Lane}
use Rattle.anim_names.specs.declared.property.Property.{Property}
use Rattle.anim_names.specs.declared.property.Property.TheVariants.{Opacity, Transform}
use Rattle.anim_names.specs.declared.version.Version.{Version}
use Rattle.micro_time.specs.declared.direction.Direction.{Direction}
use Rattle.micro_time.specs.declared.fill.Fill.{Fill}
use Rattle.easing_fixed.specs.declared.easing.Easing.{Easing}
use Rattle.transform_ops.specs.declared.op.TransformOp.{TransformOp}
use Rattle.curve_keys.specs.declared.TheConstants.{FEWEST_KEYS, MOST_KEYS}
use Rattle.curve_keys.specs.declared.key.Key.{Key}
use Rattle.keyframe_model.specs.Models.{PropertyValue, OpacityValue, TransformValue}
use Rattle.run_rules.specs.declared.compositor_step.CompositorStep.{CompositorStep}
use Rattle.run_rules.specs.declared.compositor_step.CompositorStep.TheVariants.{Pull, Activate, Tick}
use Rattle.tree_commit.specs.Edits.{Change, OnElements, OnTimelines, OnModels, AddElement, RemoveElement, SetOwn, AddTimeline, RemoveModel}
use Rattle.run_rules.specs.Scripts.{StepOfMain, EditStep, CommitStep, DrainStep}
use Rattle.script_fields.specs.declared.values.Count.{Count}
use Rattle.script_fields.specs.declared.values.TimingNumbers.{TimingNumbers}
use Rattle.script_fields.specs.Fields.{◌>>=◌}
use Rattle.script_fields.specs.Numbers.{number_said}
use Rattle.script_fields.specs.Keywords.{property_said, direction_said, fill_said, policy_said, letters_said}
use Rattle.script_fields.specs.Values.{id_said, opacity_said, time_said, key_time_said, start_said, count_said, timing_of}
use Rattle.script_fields.specs.Easings.{easing_said}
use Rattle.script_fields.specs.Lists.{is_list_long, list_read}
use Rattle.frame_script.specs.declared.cause.Cause.{Cause}
use Rattle.frame_script.specs.declared.cause.Cause.TheVariants.{BadLine, BadNumber, BadCurve, BadTiming, BadEasing, BadWord}
use Rattle.frame_script.specs.declared.model_line.ModelNames.{ModelNames}
use Rattle.frame_script.specs.declared.model_line.ModelLine.{ModelLine}
use Rattle.frame_script.specs.Causes.{caused}

-- a line that has no further field
abbrev pub alone : {A : Type 0} → A → List (List ℕ) → Result A Cause
alone said [] = Ok said
alone said (field ∷ others) = Err BadLine

-- ---- values of a property

-- the value of an opacity: one field
abbrev pub is_one : List (List ℕ) → Bool
is_one (field ∷ []) = true
is_one other = false

abbrev pub own_opacity : List (List ℕ) → Result ℕ Cause
own_opacity (field ∷ []) = ok_or (opacity_said field) BadNumber
own_opacity other = Err BadLine

-- the value of a transform: a list
unfoldable pub own_list : List (List ℕ) → Result (List TransformOp) Cause
own_list fields = caused (list_read fields)

-- this number of fields may spell a value of the property
abbrev pub is_value_long : Property → List (List ℕ) → Bool
is_value_long Opacity fields = is_one fields
is_value_long Transform fields = is_list_long fields

-- the value of the property that the fields spell
abbrev pub value_said : Property → List (List ℕ) → Result PropertyValue Cause
value_said Opacity fields = own_opacity fields >>= λ opacity. Ok (OpacityValue opacity)
value_said Transform fields = own_list fields >>= λ list. Ok (TransformValue list)

-- ---- edits

-- `element ID OPACITY LIST`
unfoldable pub new_element : List ℕ → List ℕ → List (List ℕ) → Result Change Cause
new_element id opacity list = do
  name ← ok_or (id_said id) BadNumber
  own ← ok_or (opacity_said opacity) BadNumber
  ops ← caused (list_read list)
  Ok (OnElements (AddElement name (record { opacity = own; transform = ops })))

abbrev pub element_said : List (List ℕ) → Result Change Cause
element_said (id ∷ opacity ∷ list) = if is_list_long list then new_element id opacity list else Err BadLine
element_said other = Err BadLine

-- `PROPERTY ID VALUE`
unfoldable pub new_own : Property → List ℕ → List (List ℕ) → Result Change Cause
new_own property id value = do
  name ← ok_or (id_said id) BadNumber
  own ← value_said property value
  Ok (OnElements (SetOwn name own))

abbrev pub own_said : Property → List (List ℕ) → Result Change Cause
own_said property (id ∷ value) = if is_value_long property value then new_own property id value else Err BadLine
own_said property [] = Err BadLine

-- `timeline ID ZERO`
unfoldable pub new_timeline : List ℕ → List ℕ → Result Change Cause
new_timeline id origin = do
  name ← ok_or (id_said id) BadNumber
  tick ← ok_or (time_said origin) BadNumber
  Ok (OnTimelines (AddTimeline name tick))

abbrev pub timeline_said : List (List ℕ) → Result Change Cause
timeline_said (id ∷ origin ∷ []) = new_timeline id origin
timeline_said other = Err BadLine

-- `drop-element ID` and `drop-model ID`
abbrev pub old_id : List (List ℕ) → Result ℕ Cause
old_id (id ∷ []) = ok_or (id_said id) BadNumber
old_id other = Err BadLine

unfoldable pub drop_element_said : List (List ℕ) → Result Change Cause
drop_element_said fields = do
  name ← old_id fields
  Ok (OnElements (RemoveElement name))

unfoldable pub drop_model_said : List (List ℕ) → Result Change Cause
drop_model_said fields = do
  name ← old_id fields
  Ok (OnModels (RemoveModel name))

-- An edit other than the adding of a model, in this version of the language. A line that begins with a property sets an
-- element's own value of it.
unfoldable pub edit_said : Version → List ℕ → List (List ℕ) → Result Change Cause
edit_said version name fields =
    if bytes_eq name (codes "element") then element_said fields else
    if bytes_eq name (codes "timeline") then timeline_said fields else
    if bytes_eq name (codes "drop-element") then drop_element_said fields else
    if bytes_eq name (codes "drop-model") then drop_model_said fields else
    (ok_or (property_said name) BadLine >>= λ property. own_said property fields)

-- ---- the line of a model

abbrev pub named : ℕ → ℕ → ℕ → ℕ → Property → Option ℕ → ModelNames
named id group element timeline property start = record {
  id = id;
  group = group;
  element = element;
  timeline = timeline;
  property = property;
  start = start;
}

-- `ID GROUP ELEMENT TIMELINE`
unfoldable pub ids_said : List ℕ → List ℕ → List ℕ → List ℕ → Result (ℕ × (ℕ × (ℕ × ℕ))) Cause
ids_said id group element timeline = do
  own ← ok_or (id_said id) BadNumber
  of_group ← ok_or (id_said group) BadNumber
  of_element ← ok_or (id_said element) BadNumber
  of_timeline ← ok_or (id_said timeline) BadNumber
  Ok (own, (of_group, (of_element, of_timeline)))

-- `ID GROUP ELEMENT TIMELINE PROPERTY START`
unfoldable pub names_said : List ℕ → List ℕ → List ℕ → List ℕ → List ℕ → List ℕ → Result ModelNames Cause
names_said id group element timeline property start = do
  ids ← ids_said id group element timeline
  animated ← ok_or (property_said property) BadLine
  given ← ok_or (start_said start) BadNumber
  Ok (named ids.0 ids.1.0 ids.1.1.0 ids.1.1.1 animated given)

-- `OFFSET ITERATIONS ISTART`
unfoldable pub span_said : List ℕ → List ℕ → List ℕ → Result (ℤ × (Count × ℤ)) Cause
span_said offset iterations iteration_start = do
  by ← ok_or (number_said offset) BadNumber
  count ← ok_or (count_said iterations) BadNumber
  from ← ok_or (number_said iteration_start) BadNumber
  Ok (by, (count, from))

-- `DIRECTION FILL RATE`
unfoldable pub course_said : List ℕ → List ℕ → List ℕ → Result (Direction × (Fill × ℤ)) Cause
course_said direction fill rate = do
  way ← ok_or (direction_said direction) BadLine
  beyond ← ok_or (fill_said fill) BadLine
  speed ← ok_or (number_said rate) BadNumber
  Ok (way, (beyond, speed))

abbrev pub timing_numbers : ℤ × (Count × ℤ) → Direction × (Fill × ℤ) → TimingNumbers
timing_numbers span course = record {
  offset = span.0;
  iterations = span.1.0;
  iteration_start = span.1.1;
  direction = course.0;
  fill = course.1.0;
  rate = course.1.1;
}

unfoldable pub numbers_said : List ℕ → List ℕ → List ℕ → List ℕ → List ℕ → List ℕ → Result TimingNumbers Cause
numbers_said offset iterations iteration_start direction fill rate = do
  span ← span_said offset iterations iteration_start
  course ← course_said direction fill rate
  Ok (timing_numbers span course)

-- a number of keys that a curve may have
abbrev pub key_count_of : ℤ → Option ℕ
key_count_of (pos n) = if nat_le FEWEST_KEYS n && nat_le n MOST_KEYS then Some n else None
key_count_of (negsuc n) = None

unfoldable pub key_count_said : List ℕ → Result ℕ Cause
key_count_said field = do
  number ← ok_or (number_said field) BadNumber
  ok_or (key_count_of number) BadCurve

-- `POLICY EASING KEYS`, and then the numbers of the timing, which are judged last
unfoldable pub curve_line_said : ModelNames → TimingNumbers → List ℕ → List ℕ → List ℕ → Result ModelLine Cause
curve_line_said names numbers policy easing keys = do
  kept ← ok_or (policy_said policy) BadLine
  bend ← ok_or (easing_said easing) BadEasing
  count ← key_count_said keys
  timing ← ok_or (timing_of numbers) BadTiming
  Ok (record { names = names; timing = timing; policy = kept; easing = bend; keys = count })

abbrev pub after_numbers : ModelNames → TimingNumbers → List (List ℕ) → Result ModelLine Cause
after_numbers names numbers (policy ∷ easing ∷ keys ∷ []) = curve_line_said names numbers policy easing keys
after_numbers names numbers other = Err BadLine

abbrev pub after_names : ModelNames → List (List ℕ) → Result ModelLine Cause
after_names names (offset ∷ iterations ∷ iteration_start ∷ direction ∷ fill ∷ rate ∷ more) =
    numbers_said offset iterations iteration_start direction fill rate >>= λ numbers. after_numbers names numbers more
after_names names other = Err BadLine

abbrev pub after_model : List (List ℕ) → Result ModelLine Cause
after_model (id ∷ group ∷ element ∷ timeline ∷ property ∷ start ∷ more) =
    names_said id group element timeline property start >>= λ names. after_names names more
after_model other = Err BadLine

-- `model ID GROUP ELEMENT TIMELINE PROPERTY START OFFSET ITERATIONS ISTART DIRECTION FILL RATE POLICY EASING KEYS`
unfoldable pub model_said : List (List ℕ) → Result ModelLine Cause
model_said fields = if length fields == 15 then after_model fields else Err BadLine

-- ---- a line of main

pub data MainLine : Type 0 where
  SaysStep : StepOfMain → MainLine
  SaysModel : ModelLine → MainLine

-- a step of main other than the adding of a model, in this version of the language
unfoldable pub step_said : Version → List ℕ → List (List ℕ) → Result StepOfMain Cause
step_said version name fields =
    if bytes_eq name (codes "commit") then alone CommitStep fields else
    if bytes_eq name (codes "drain") then alone DrainStep fields else
    (edit_said version name fields >>= λ change. Ok (EditStep change))

abbrev pub main_said : Version → List (List ℕ) → Result MainLine Cause
main_said version [] = Err BadLine
main_said version (name ∷ fields) =
    if bytes_eq name (codes "model") then (model_said fields >>= λ line. Ok (SaysModel line)) else
    (step_said version name fields >>= λ step. Ok (SaysStep step))

-- ---- the line of a key

abbrev pub key_parts : {V : Type 0} → ℕ → Easing → V → Key V
key_parts time easing value = record { time = time; easing = easing; value = value }

unfoldable pub key_of : {V : Type 0} → (List (List ℕ) → Result V Cause) → List ℕ → List ℕ → List (List ℕ) → Result (Key V) Cause
key_of says time easing value = do
  at ← ok_or (key_time_said time) BadNumber
  bend ← ok_or (easing_said easing) BadEasing
  there ← says value
  Ok (key_parts at bend there)

-- `key TIME EASING VALUE`, where the value has as many fields as it may
unfoldable pub key_said : {V : Type 0} → (List (List ℕ) → Bool) → (List (List ℕ) → Result V Cause) → List (List ℕ) → Result (Key V) Cause
key_said is_long says (name ∷ time ∷ easing ∷ value) =
    if bytes_eq name (codes "key") && is_long value then key_of says time easing value else Err BadLine
key_said is_long says other = Err BadLine

-- ---- a line of the compositor

abbrev pub tick_said : List (List ℕ) → Result CompositorStep Cause
tick_said (time ∷ []) = ok_or (time_said time) BadNumber >>= λ t. Ok (Tick t)
tick_said other = Err BadLine

-- a step of the compositor, in this version of the language
unfoldable pub compositor_said : Version → List ℕ → List (List ℕ) → Result CompositorStep Cause
compositor_said version name fields =
    if bytes_eq name (codes "pull") then alone Pull fields else
    if bytes_eq name (codes "activate") then alone Activate fields else
    if bytes_eq name (codes "tick") then tick_said fields else
    Err BadLine

-- `word LETTERS`
abbrev pub word_said : List (List ℕ) → Result (List Lane) Cause
word_said (letters ∷ []) = ok_or (letters_said letters) BadWord
word_said other = Err BadLine

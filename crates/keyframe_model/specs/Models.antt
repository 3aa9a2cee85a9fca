-- Keyframe models as plain data: what a model animates, when and how, and which value it has at a local time.
use Rattle.std.specs.Prelude.{◌≡◌, ℕ, ◌<◌, ◌≤◌, ◌^◌, ℤ, List, Option, IfSome, option_map, option_and_then}
use Rattle.anim_names.specs.declared.property.Property.{Property}
use Rattle.anim_names.specs.declared.property.Property.TheVariants.{Opacity, Transform}
use Rattle.anim_timeline.specs.declared.TheConstants.{LAST_TIME}
use Rattle.anim_delegate.specs.declared.policy.Policy.{Policy}
use Rattle.micro_time.specs.Timings.{TimingParts, IsTiming, curve_time}
use Rattle.value_blend.specs.Blends.{IsOpacity, blend_opacity}
use Rattle.transform_ops.specs.declared.op.TransformOp.{TransformOp}
use Rattle.transform_ops.specs.Lists.{IsList, blend_lists}
use Rattle.curve_keys.specs.Curves.{Keyframes, IsCurve, duration_of, curve_value}

-- ---- curves and values of a property

pub data PropertyCurve : Type 0 where
  OpacityCurve : Keyframes ℕ → PropertyCurve
  TransformCurve : Keyframes (List TransformOp) → PropertyCurve

pub data PropertyValue : Type 0 where
  OpacityValue : ℕ → PropertyValue
  TransformValue : List TransformOp → PropertyValue

-- the property of which this is a curve
abbrev pub property_of_curve : PropertyCurve → Property
property_of_curve (OpacityCurve curve) = Opacity
property_of_curve (TransformCurve curve) = Transform

abbrev pub curve_duration : PropertyCurve → ℕ
curve_duration (OpacityCurve curve) = duration_of curve
curve_duration (TransformCurve curve) = duration_of curve

-- the value of the curve at a time of the curve
abbrev pub value_on : PropertyCurve → ℕ → Option PropertyValue
value_on (OpacityCurve curve) time = option_map OpacityValue (curve_value blend_opacity curve time)
value_on (TransformCurve curve) time = option_map TransformValue (curve_value blend_lists curve time)

-- the property of which this is a value
abbrev pub property_of_value : PropertyValue → Property
property_of_value (OpacityValue opacity) = Opacity
property_of_value (TransformValue transform) = Transform

-- what may be a value of its property
abbrev pub IsPropertyValue : PropertyValue → Type 0
IsPropertyValue (OpacityValue opacity) = IsOpacity opacity
IsPropertyValue (TransformValue transform) = IsList transform

-- what may be a curve of its property
abbrev pub IsPropertyCurve : PropertyCurve → Type 0
IsPropertyCurve (OpacityCurve curve) = IsCurve IsOpacity curve
IsPropertyCurve (TransformCurve curve) = IsCurve IsList curve

-- ---- models

-- A keyframe model: its own id; the group, the element and the timeline that it names; the time of its timeline from
-- which its local time counts, where it is given; its timing; what main does once it ended; and its curve.
pub record Spec : Type 0 where
  pub id : ℕ
  pub group : ℕ
  pub element : ℕ
  pub timeline : ℕ
  pub start : Option ℕ
  pub timing : TimingParts
  pub policy : Policy
  pub curve : PropertyCurve

abbrev pub model_parts : ℕ → ℕ → ℕ → ℕ → Option ℕ → TimingParts → Policy → PropertyCurve → Spec
model_parts id group element timeline start timing policy curve = record {
  id = id;
  group = group;
  element = element;
  timeline = timeline;
  start = start;
  timing = timing;
  policy = policy;
  curve = curve;
}

-- what may be an id
abbrev pub IsId : ℕ → Type 0
IsId id = id < 2 ^ 32

-- what may be a model
pub record IsModel (model : Spec) : Type 0 where
  pub id : IsId model.id
  pub group : IsId model.group
  pub element : IsId model.element
  pub timeline : IsId model.timeline
  pub start : IfSome model.start (λ start. start ≤ LAST_TIME)
  pub timing : IsTiming model.timing
  pub duration : model.timing.duration ≡ curve_duration model.curve
  pub curve : IsPropertyCurve model.curve

-- what of its element a model animates
abbrev pub property_of : Spec → Property
property_of model = property_of_curve model.curve

-- The value of a model at a local time: that of its curve at the time of the curve, where its timing gives one.
unfoldable pub model_value : Spec → ℤ → Option PropertyValue
model_value model local = option_and_then (value_on model.curve) (curve_time model.timing local)

-- What the curves and the values of the code stand for.
use Rattle.keyframe_model.specs.declared.curve.CurveOf.{CurveOf}
use Rattle.keyframe_model.specs.declared.curve.CurveOf.TheVariants as curve
use Rattle.keyframe_model.specs.declared.curve.Value.{Value}
use Rattle.keyframe_model.specs.declared.curve.Value.TheVariants as value
use Rattle.keyframe_model.specs.declared.shared_value.SharedValue.{SharedValue}
use Rattle.keyframe_model.specs.declared.shared_value.SharedValue.TheVariants as shared
use Rattle.keyframe_model.specs.Models.{PropertyCurve, OpacityCurve, TransformCurve, PropertyValue, OpacityValue, TransformValue}

abbrev pub curve_of : CurveOf → PropertyCurve
curve_of (curve.Opacity c) = OpacityCurve c
curve_of (curve.Transform c) = TransformCurve c

abbrev pub value_of : Value → PropertyValue
value_of (value.Opacity v) = OpacityValue v
value_of (value.Transform v) = TransformValue v

abbrev pub shared_value_of : SharedValue → PropertyValue
shared_value_of (shared.Opacity opacity) = OpacityValue opacity
shared_value_of (shared.Transform list) = TransformValue list.value

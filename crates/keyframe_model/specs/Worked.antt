-- A model of which values are worked out.
use Rattle.std.specs.Prelude.{ℕ, [], ◌∷◌, None, pos}
use Rattle.anim_delegate.specs.declared.policy.Policy.TheVariants.{Auto}
use Rattle.easing_fixed.specs.declared.easing.Easing.TheVariants.{Linear}
use Rattle.micro_time.specs.declared.direction.Direction.TheVariants.{Normal}
use Rattle.micro_time.specs.declared.fill.Fill.TheVariants.{Forwards}
use Rattle.micro_time.specs.declared.iterations.Iterations.TheVariants.{Finite}
use Rattle.micro_time.specs.Timings.{timing_parts}
use Rattle.curve_keys.specs.declared.key.Key.{Key}
use Rattle.curve_keys.specs.Curves.{Keyframes}
use Rattle.keyframe_model.specs.Models.{Spec, OpacityCurve}

abbrev pub key : ℕ → ℕ → Key ℕ
key time value = record { time = time; easing = Linear; value = value }

abbrev pub rising : Keyframes ℕ
rising = record { keys = key 0 0 ∷ key 1000000 1000000 ∷ []; easing = Linear }

-- an opacity that rises from 0 to opaque in a second, and then stays
abbrev pub fade_in : Spec
fade_in = record {
  id = 1;
  group = 1;
  element = 1;
  timeline = 1;
  start = None;
  timing = timing_parts 1000000 (pos 0) (Finite 1000) 0 Normal Forwards (pos 1000);
  policy = Auto;
  curve = OpacityCurve rising;
}

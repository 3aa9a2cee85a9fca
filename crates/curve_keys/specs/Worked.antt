-- Curves of which values are worked out.
use Rattle.std.specs.Prelude.{ℕ, [], ◌∷◌}
use Rattle.easing_fixed.specs.declared.easing.Easing.{Easing}
use Rattle.easing_fixed.specs.declared.easing.Easing.TheVariants.{Linear, Steps}
use Rattle.easing_fixed.specs.declared.position.StepPosition.TheVariants.{JumpStart}
use Rattle.easing_fixed.specs.Steps.{step_parts}
use Rattle.curve_keys.specs.declared.key.Key.{Key}
use Rattle.curve_keys.specs.Curves.{Keyframes}

abbrev pub key : {V : Type 0} → ℕ → Easing → V → Key V
key time easing value = record { time = time; easing = easing; value = value }

-- linear from 0 to opaque, and then to half
abbrev pub up_and_half_down : Keyframes ℕ
up_and_half_down = record {
  keys = key 0 Linear 0 ∷ key 400000 Linear 1000000 ∷ key 1000000 Linear 500000 ∷ [];
  easing = Linear;
}

-- from 0 to opaque in four steps, the first at once
abbrev pub stepped : Keyframes ℕ
stepped = record {
  keys = key 0 (Steps (step_parts 4 JumpStart)) 0 ∷ key 1000 Linear 1000000 ∷ [];
  easing = Linear;
}

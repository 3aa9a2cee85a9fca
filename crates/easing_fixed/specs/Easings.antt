-- What may be an easing, and what it gives at a progress.
use Rattle.std.specs.Prelude.{ℕ, ℤ, pos}
use Rattle.easing_fixed.specs.declared.easing.Easing.{Easing}
use Rattle.easing_fixed.specs.declared.easing.Easing.TheVariants.{Linear, Steps, Cubic}
use Rattle.easing_fixed.specs.Steps.{AreSteps, step_value}
use Rattle.easing_fixed.specs.Cubics.{IsCubic, cubic_value}

-- what may be an easing: the parts of its shape are in range
abbrev pub IsEasing : Easing → Type 0
IsEasing Linear = Unit {0}
IsEasing (Steps s) = AreSteps s
IsEasing (Cubic c) = IsCubic c

-- what the easing gives at a progress
unfoldable pub eased : Easing → ℕ → ℤ
eased Linear p = pos p
eased (Steps s) p = pos (step_value s p)
eased (Cubic c) p = cubic_value c p

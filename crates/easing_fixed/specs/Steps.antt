-- A step function: its parts and their ranges, and its value at a progress.
use Rattle.std.specs.Prelude.{◌≡◌, ℕ, ◌+◌, ◌-◌, ◌*◌, ◌/◌, min, not, ◌&&◌, nat_le, if◌then◌else◌, Option, Some, None}
use Rattle.anim_names.specs.declared.progress.TheConstants.{ONE}
use Rattle.easing_fixed.specs.declared.TheConstants.{MOST_INTERVALS}
use Rattle.easing_fixed.specs.declared.fault.EasingFault.{EasingFault}
use Rattle.easing_fixed.specs.declared.fault.EasingFault.TheVariants.{BadCount}
use Rattle.easing_fixed.specs.declared.position.StepPosition.{StepPosition}
use Rattle.easing_fixed.specs.declared.position.StepPosition.TheVariants.{JumpStart, JumpEnd, JumpNone, JumpBoth}

-- ---- the parts

pub record StepParts : Type 0 where
  pub count : ℕ
  pub position : StepPosition

abbrev pub step_parts : ℕ → StepPosition → StepParts
step_parts count position = record { count = count; position = position }

-- without a jump at either end there are two steps at least
abbrev pub least_count : StepPosition → ℕ
least_count JumpStart = 1
least_count JumpEnd = 1
least_count JumpNone = 2
least_count JumpBoth = 1

-- why the parts make no step function
abbrev pub step_refusal : StepParts → Option EasingFault
step_refusal s = if not (nat_le (least_count s.position) s.count && nat_le s.count MOST_INTERVALS) then Some BadCount else None

-- what may be the parts of a step function
abbrev pub AreSteps : StepParts → Type 0
AreSteps s = step_refusal s ≡ None

-- ---- the value

-- how many jumps lead from 0 to 1
abbrev pub jumps_at : StepPosition → ℕ → ℕ
jumps_at JumpStart count = count
jumps_at JumpEnd count = count
jumps_at JumpNone count = count - 1
jumps_at JumpBoth count = count + 1

abbrev pub jumps : StepParts → ℕ
jumps s = jumps_at s.position s.count

-- how many of them come at once, at progress 0
abbrev pub first_jumps : StepPosition → ℕ
first_jumps JumpStart = 1
first_jumps JumpEnd = 0
first_jumps JumpNone = 0
first_jumps JumpBoth = 1

-- how many jumps are made at progress p: never more than there are
abbrev pub step : StepParts → ℕ → ℕ
step s p = min (p * s.count / ONE + first_jumps s.position) (jumps s)

unfoldable pub step_value : StepParts → ℕ → ℕ
step_value s p = step s p * ONE / jumps s

-- Causes of a refusal.
use Rattle.std.specs.Prelude.{ℕ, Bool, true, false, Option, Some, None, Result, Ok, Err}
use Rattle.script_fields.specs.declared.fault.FieldFault.{FieldFault}
use Rattle.script_fields.specs.declared.fault.FieldFault.TheVariants as field
use Rattle.frame_script.specs.declared.cause.Cause.{Cause}
use Rattle.frame_script.specs.declared.cause.Cause.TheVariants.{BadLine, BadNumber}

-- it is refused for this cause, unless the test is passed
abbrev pub demand : Bool → Cause → Result (Unit {0}) Cause
demand true cause = Ok tt
demand false cause = Err cause

-- it is refused where there is a cause
abbrev pub allow : Option Cause → Result (Unit {0}) Cause
allow None = Ok tt
allow (Some cause) = Err cause

-- the cause of a wrong field of a list
abbrev pub cause_of : FieldFault → Cause
cause_of field.BadForm = BadLine
cause_of field.BadNumber = BadNumber

abbrev pub caused : {A : Type 0} → Result A FieldFault → Result A Cause
caused (Ok x) = Ok x
caused (Err fault) = Err (cause_of fault)

-- a script is refused at a line, for a cause
pub record Refusal : Type 0 where
  pub line : ℕ
  pub cause : Cause

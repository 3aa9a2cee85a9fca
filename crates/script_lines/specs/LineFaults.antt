-- What a call gives that may refuse a line.
use Rattle.std.specs.Prelude.{◌≡◌, Result, Ok, Err}
use Rattle.script_fields.specs.Fields.{◌>>=◌}
use Rattle.frame_script.specs.declared.cause.Cause.{Cause}
use Rattle.script_lines.specs.declared.fault.LineFault.{LineFault}
use Rattle.script_lines.specs.declared.fault.LineFault.TheVariants as line

-- what follows from what was read, as a word of clauses
abbrev pub read_then : {A B : Type 0} → Result A Cause → (A → Result B Cause) → Result B Cause
read_then read more = read >>= more

-- What a call returned, seen by view, is what is read, unless memory ran out.
abbrev pub Gives : {X Y : Type 0} → (X → Y) → Result X LineFault → Result Y Cause → Type 0
Gives view (Ok x) read = read ≡ Ok (view x)
Gives view (Err (line.Refused cause)) read = read ≡ Err cause
Gives view (Err line.NoMemory) read = Unit {0}

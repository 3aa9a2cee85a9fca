-- Reading line by line up to the first line that is refused: what the relations of texts come to, as a function.
use Rattle.std.specs.Prelude.{◌≡◌, ℕ, ◌+◌, nat_lt, List, [], ◌∷◌, length, Result, Ok, Err, if◌then◌else◌}
use Rattle.run_rules.specs.Scripts.{ScriptLists}
use Rattle.script_fields.specs.Fields.{◌>>=◌}
use Rattle.frame_script.specs.declared.TheConstants.{MOST_BYTES}
use Rattle.frame_script.specs.declared.cause.Cause.{Cause}
use Rattle.frame_script.specs.declared.cause.Cause.TheVariants.{MissingPart, TooLong}
use Rattle.frame_script.specs.declared.fault.ScriptFault.{ScriptFault}
use Rattle.frame_script.specs.declared.fault.ScriptFault.TheVariants as fault
use Rattle.frame_script.specs.Causes.{Refusal}
use Rattle.frame_script.specs.Lines.{lines}
use Rattle.frame_script.specs.States.{Stage, AtHeader, AtMain, InMain, InModel, InCompositor, AtEnd, Ended, ScriptState, beginning, after_line}

abbrev pub refusal : ℕ → Cause → Refusal
refusal number cause = record { line = number; cause = cause }

-- what a line of this number makes of the state
abbrev pub numbered : {A : Type 0} → ℕ → Result A Cause → Result A Refusal
numbered number (Ok x) = Ok x
numbered number (Err cause) = Err (refusal number cause)

-- the script, where it has ended; else the part that would stand next is missing
abbrev pub end_at : ℕ → Stage → ScriptLists → Result ScriptLists Refusal
end_at number AtHeader script = Err (refusal number MissingPart)
end_at number AtMain script = Err (refusal number MissingPart)
end_at number InMain script = Err (refusal number MissingPart)
end_at number (InModel model keys) script = Err (refusal number MissingPart)
end_at number InCompositor script = Err (refusal number MissingPart)
end_at number AtEnd script = Err (refusal number MissingPart)
end_at number Ended script = Ok script

-- what these lines make of the state, of which the first has this number
unfoldable pub reading_from : ℕ → ScriptState → List (List ℕ) → Result ScriptLists Refusal
reading_from number state [] = end_at number state.stage state.script
reading_from number state (line ∷ more) =
    numbered number (after_line state line) >>= λ next. reading_from (number + 1) next more

unfoldable pub reading : List ℕ → Result ScriptLists Refusal
reading bytes =
    if nat_lt MOST_BYTES (length bytes) then Err (refusal 0 TooLong) else reading_from 1 beginning (lines bytes)

-- ---- what a call gives

-- why a call failed is what is read, unless memory ran out
abbrev pub FailsAs : {Y : Type 0} → Result Y Refusal → ScriptFault → Type 0
FailsAs read (fault.Refused line cause) = read ≡ Err (refusal line cause)
FailsAs read fault.NoMemory = Unit {0}

-- What a call returned, seen by view, is what is read, unless memory ran out.
abbrev pub GivesScript : {X Y : Type 0} → (X → Y) → Result X ScriptFault → Result Y Refusal → Type 0
GivesScript view (Ok x) read = read ≡ Ok (view x)
GivesScript view (Err why) read = FailsAs read why

-- Which bytes spell a script, and which are refused, at which line and why.
use Rattle.std.specs.Prelude.{◌≡◌, ◌≢◌, ◌⊎◌, ℕ, ◌+◌, ◌<◌, ◌≤◌, List, [], ◌∷◌, ◌++◌, length, Ok, Err}
use Rattle.run_rules.specs.Scripts.{ScriptLists}
use Rattle.frame_script.specs.declared.TheConstants.{MOST_BYTES}
use Rattle.frame_script.specs.declared.cause.Cause.{Cause}
use Rattle.frame_script.specs.declared.cause.Cause.TheVariants.{MissingPart, TooLong}
use Rattle.frame_script.specs.declared.fault.ScriptFault.{ScriptFault}
use Rattle.frame_script.specs.declared.fault.ScriptFault.TheVariants as fault
use Rattle.frame_script.specs.Lines.{lines}
use Rattle.frame_script.specs.States.{ScriptState, Ended, at, beginning, after_line}

-- these lines, each of them allowed where it stands, lead from one state to the other
abbrev pub LeadTo : ScriptState → List (List ℕ) → ScriptState → Type 0
LeadTo from [] to = from ≡ to
LeadTo from (line ∷ more) to = (next : ScriptState) × (after_line from line ≡ Ok next) × LeadTo next more to

-- these bytes spell this script: they are not too many, and their lines lead to its end
pub record Spells (bytes : List ℕ) (script : ScriptLists) : Type 0 where
  pub short : length bytes ≤ MOST_BYTES
  pub leads : LeadTo beginning (lines bytes) (at Ended script)

-- a line is refused: those before it are allowed, and it is not
pub record IsWrongAt (text : List (List ℕ)) (number : ℕ) (cause : Cause) : Type 0 where
  pub before : List (List ℕ)
  pub wrong : List ℕ
  pub behind : List (List ℕ)
  pub state : ScriptState
  pub cut : text ≡ before ++ wrong ∷ behind
  pub leads : LeadTo beginning before state
  pub refused : after_line state wrong ≡ Err cause
  pub number_is : number ≡ length before + 1

-- each line is allowed, and the script has not ended behind the last one
pub record IsCutOff (text : List (List ℕ)) (number : ℕ) (cause : Cause) : Type 0 where
  pub state : ScriptState
  pub leads : LeadTo beginning text state
  pub goes_on : state.stage ≢ Ended
  pub number_is : number ≡ length text + 1
  pub cause_is : cause ≡ MissingPart

-- there are too many bytes
pub record IsTooLong (bytes : List ℕ) (number : ℕ) (cause : Cause) : Type 0 where
  pub long : MOST_BYTES < length bytes
  pub number_is : number ≡ 0
  pub cause_is : cause ≡ TooLong

-- not too many bytes, of which a line is refused or a part is missing
pub record IsWrong (bytes : List ℕ) (number : ℕ) (cause : Cause) : Type 0 where
  pub short : length bytes ≤ MOST_BYTES
  pub wrong : IsWrongAt (lines bytes) number cause ⊎ IsCutOff (lines bytes) number cause

-- these bytes are refused at a line, counted from 1, for a cause
abbrev pub IsRefusedAt : List ℕ → ℕ → Cause → Type 0
IsRefusedAt bytes number cause = IsTooLong bytes number cause ⊎ IsWrong bytes number cause

-- why these bytes could not be read: they are refused, unless memory ran out
abbrev pub IsWhy : List ℕ → ScriptFault → Type 0
IsWhy bytes (fault.Refused line cause) = IsRefusedAt bytes line cause
IsWhy bytes fault.NoMemory = Unit {0}

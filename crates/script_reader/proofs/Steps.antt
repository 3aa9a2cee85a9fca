-- Reading one line after the other, as a loop does.
use Rattle.std.proofs.Common.{◌≡◌, ℕ, ◌+◌, ◌<◌, ◌≤◌, List, [], ◌∷◌, length, Result, Ok, Err, refl, ap, sym, ◌∙◌}
use Rattle.std.specs.Prelude.{IfOk, IfErr}
use Rattle.std.proofs.lemmas.Bool.{le-ltb, lt-ltb}
use Rattle.run_rules.specs.Scripts.{StepOfMain, ScriptLists, IsWellFormed}
use Rattle.frame_script.specs.declared.TheConstants.{MOST_BYTES}
use Rattle.frame_script.specs.declared.cause.Cause.TheVariants.{TooLong}
use Rattle.frame_script.specs.declared.fault.ScriptFault.{ScriptFault}
use Rattle.frame_script.specs.declared.fault.ScriptFault.TheVariants as fault
use Rattle.frame_script.specs.declared.cause.Cause.{Cause}
use Rattle.script_fields.specs.Fields.{◌>>=◌}
use Rattle.std.specs.Prelude.{if◌then◌else◌, codes, true, false}
use Rattle.std.specs.Str.{bytes_eq}
use Rattle.frame_script.specs.declared.model_line.ModelLine.{ModelLine}
use Rattle.frame_script.specs.Said.{SaysModel, SaysStep, model_said, step_said}
use Rattle.frame_script.specs.Causes.{Refusal}
use Rattle.frame_script.specs.Lines.{lines}
use Rattle.frame_script.specs.States.{Stage, Ended, ScriptState, beginning, in_main, model_begun, step_made, main_made, after_line}
use Rattle.frame_script.specs.Texts.{IsWhy}
use Rattle.frame_script.specs.Reading.{refusal, numbered, end_at, reading_from, reading, FailsAs, GivesScript}
use Rattle.frame_script.proofs.Leads.{read_is_spelled, read_is_refused}
use Rattle.frame_script.proofs.Sound.{spelled_is_well_formed}
use Rattle.frame_script.specs.Texts.{Spells}

pub line_is_read : (n : ℕ) (state next : ScriptState) (text line after : List ℕ) (total : Result ScriptLists Refusal) → lines text ≡ line ∷ lines after
    → numbered n (after_line state line) ≡ Ok next → reading_from n state (lines text) ≡ total → reading_from (n + 1) next (lines after) ≡ total
unfolding reading_from
line_is_read n state next text line after total cut read so_far =
    let here : reading_from n state (lines text) ≡ reading_from (n + 1) next (lines after) = rw (cut, read) refl in
    sym here ∙ so_far

pub line_is_refused : (n : ℕ) (state : ScriptState) (text line after : List ℕ) (total : Result ScriptLists Refusal) (why : ScriptFault) → lines text ≡ line ∷ lines after
    → FailsAs (numbered n (after_line state line)) why → reading_from n state (lines text) ≡ total → FailsAs total why
unfolding reading_from
line_is_refused n state text line after total (fault.Refused number cause) cut failed so_far =
    let here : reading_from n state (lines text) ≡ Err (refusal number cause) = rw (cut, failed) refl in
    sym so_far ∙ here
line_is_refused n state text line after total fault.NoMemory cut failed so_far = tt

pub lines_are_read : (n : ℕ) (state : ScriptState) (text : List ℕ) (total : Result ScriptLists Refusal) → text ≡ []
    → reading_from n state (lines text) ≡ total → total ≡ end_at n state.stage state.script
unfolding reading_from
lines_are_read n state text total none so_far =
    let here : reading_from n state (lines text) ≡ end_at n state.stage state.script = rw none refl in
    sym so_far ∙ here

ended_reads : (n : ℕ) (stage : Stage) (script : ScriptLists) → stage ≡ Ended → end_at n stage script ≡ Ok script
ended_reads n stage script ended = ap (λ (s : Stage). end_at n s script) ended

pub long_reading : (bytes : List ℕ) → MOST_BYTES < length bytes → reading bytes ≡ Err (refusal 0 TooLong)
unfolding reading
long_reading bytes long = rw (lt-ltb MOST_BYTES (length bytes) long) refl

short_reading : (bytes : List ℕ) → length bytes ≤ MOST_BYTES → reading bytes ≡ reading_from 1 beginning (lines bytes)
unfolding reading
short_reading bytes short = rw (le-ltb MOST_BYTES (length bytes) short) refl

-- what is left where the lines of a text end is what the text is read as
pub short_is_read : (bytes : List ℕ) (from : ScriptState) (n : ℕ) (stage : Stage) (script : ScriptLists) → length bytes ≤ MOST_BYTES → from ≡ beginning
    → reading_from 1 from (lines bytes) ≡ end_at n stage script → reading bytes ≡ end_at n stage script
short_is_read bytes from n stage script short begins read =
    short_reading bytes short ∙ (ap (λ (s : ScriptState). reading_from 1 s (lines bytes)) (sym begins) ∙ read)

pub well_formed_at_end : (bytes : List ℕ) (from : ScriptState) (n : ℕ) (stage : Stage) (script : ScriptLists) → length bytes ≤ MOST_BYTES → from ≡ beginning
    → reading_from 1 from (lines bytes) ≡ end_at n stage script → stage ≡ Ended → IsWellFormed script
well_formed_at_end bytes from n stage script short begins read ended =
    spelled_is_well_formed bytes script (read_is_spelled bytes script (short_is_read bytes from n stage script short begins read ∙ ended_reads n stage script ended))

why : (bytes : List ℕ) (fault : ScriptFault) → FailsAs (reading bytes) fault → IsWhy bytes fault
why bytes (fault.Refused line cause) failed = read_is_refused bytes (refusal line cause) failed
why bytes fault.NoMemory failed = tt

-- what a call gave is so in the words of texts
pub given_spelled : (bytes : List ℕ) (result : Result ScriptLists ScriptFault) → GivesScript (λ script. script) result (reading bytes) → IfOk result (Spells bytes)
given_spelled bytes (Ok script) gives = read_is_spelled bytes script gives
given_spelled bytes (Err fault) gives = tt

pub given_refused : (bytes : List ℕ) (result : Result ScriptLists ScriptFault) → GivesScript (λ script. script) result (reading bytes) → IfErr result (IsWhy bytes)
given_refused bytes (Ok script) gives = tt
given_refused bytes (Err fault) gives = why bytes fault gives

-- a step that is said is made

-- a step that is said leads to the step that is made
said_is_made : (script : ScriptLists) (said : Result StepOfMain Cause) → ((said >>= λ step. Ok (SaysStep step)) >>= main_made script) ≡ (said >>= step_made script)
said_is_made script (Ok step) = refl
said_is_made script (Err cause) = refl

-- a model that is said is begun
said_is_begun : (script : ScriptLists) (said : Result ModelLine Cause) → ((said >>= λ line. Ok (SaysModel line)) >>= main_made script) ≡ (said >>= model_begun script)
said_is_begun script (Ok line) = refl
said_is_begun script (Err cause) = refl

-- a line of main that begins with another word than a model's says a step
pub step_is_read : (script : ScriptLists) (name : List ℕ) (fields : List (List ℕ)) → bytes_eq name (codes "model") ≡ false
    → in_main script (name ∷ fields) ≡ (step_said script.version name fields >>= step_made script)
unfolding in_main
step_is_read script name fields other =
    ap (λ b. (if b then (model_said fields >>= λ line. Ok (SaysModel line)) else (step_said script.version name fields >>= λ step. Ok (SaysStep step))) >>= main_made script) other
    ∙ said_is_made script (step_said script.version name fields)

-- and one that begins so begins a model
pub model_is_read : (script : ScriptLists) (name : List ℕ) (fields : List (List ℕ)) → bytes_eq name (codes "model") ≡ true
    → in_main script (name ∷ fields) ≡ (model_said fields >>= model_begun script)
unfolding in_main
model_is_read script name fields its =
    ap (λ b. (if b then (model_said fields >>= λ line. Ok (SaysModel line)) else (step_said script.version name fields >>= λ step. Ok (SaysStep step))) >>= main_made script) its
    ∙ said_is_begun script (model_said fields)

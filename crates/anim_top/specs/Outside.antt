-- What a run of the program reads and writes.
use Rattle.std.specs.Prelude.{◌≡◌, ◌≢◌, ℕ, ◌+◌, ◌≤◌, ◌⊎◌, List, length, take, Option, IfSome}
use Rattle.anim_names.specs.declared.lane.Lane.{Lane}
use Rattle.edge_io.specs.Edges.{Gave, HasRisen, Took}
use Rattle.frame_script.specs.declared.TheConstants.{MOST_BYTES}
use Rattle.frame_script.specs.declared.cause.Cause.{Cause}
use Rattle.frame_script.specs.declared.fault.ScriptFault.{ScriptFault}
use Rattle.frame_script.specs.declared.fault.ScriptFault.TheVariants as fault
use Rattle.frame_script.specs.Texts.{IsRefusedAt, Spells}
use Rattle.run_rules.specs.Scripts.{IsWordOf, ScriptLists}
use Rattle.word_machine.specs.Laws.{KeepsLaws}
use Rattle.anim_top.specs.declared.status.Status.{Status}
use Rattle.anim_top.specs.declared.status.Status.TheVariants.{Done, Usage, Refused, ReadFault, WriteFault, NoMemory}
use Rattle.anim_top.specs.Answers.{refusal_text, text_of_report}

-- ---- reading

-- the most bytes that one call reads: one more than a script may have, which shows that it is too long
abbrev pub most_read : ℕ
most_read = MOST_BYTES + 1

-- The source gave the bytes that this call read, and lost no other byte.
pub record HasGiven (left after : Option (List ℕ)) : Type 0 where
  pub bytes : List ℕ
  pub given : Gave left after bytes
  pub few : length bytes ≤ most_read

-- The source gave these bytes. Where it told its bytes they are all of them, unless there is one more than a script may
-- have: then the rest was left.
pub record Reads (left after : Option (List ℕ)) (bytes : List ℕ) : Type 0 where
  pub given : Gave left after bytes
  pub few : length bytes ≤ most_read
  pub whole : length bytes ≤ MOST_BYTES → IfSome left (λ all. all ≡ bytes)

-- ---- writing

-- which words a report of a script may be of
abbrev pub WordsOf : Type 1
WordsOf = ScriptLists → List Lane → Type 0

-- `replay` takes the script's own word.
abbrev pub own_word : WordsOf
own_word script word = word ≡ script.word

-- `run` finds a word of the script, in which each step of either lane has its letter; and the laws of runs are true of it.
pub record FoundWord (script : ScriptLists) (word : List Lane) : Type 0 where
  pub orders : IsWordOf (length script.main) (length script.compositor) word
  pub laws : KeepsLaws script word

-- which texts may be written of a script that was read
abbrev pub TextsOf : Type 1
TextsOf = ScriptLists → List ℕ → Type 0

-- the report that the definitions give for the script and one of these words
pub record ReportFor (words : WordsOf) (script : ScriptLists) (text : List ℕ) : Type 0 where
  pub word : List Lane
  pub of_word : words script word
  pub text_is : text ≡ text_of_report script word

-- The source's bytes were read to their end, they spell a script, and the sink took one of the texts of that script.
pub record IsWrittenOf (texts : TextsOf) (left after taken took : Option (List ℕ)) : Type 0 where
  pub bytes : List ℕ
  pub script : ScriptLists
  pub text : List ℕ
  pub read : Gave left after bytes
  pub whole : IfSome left (λ all. all ≡ bytes)
  pub spelled : Spells bytes script
  pub of_script : texts script text
  pub written : Took taken took text

-- The source's bytes, read to their end or to one more than a script may have, are refused so, and the sink took the
-- refusal.
pub record IsRefused (left after taken took : Option (List ℕ)) (number : ℕ) (cause : Cause) : Type 0 where
  pub bytes : List ℕ
  pub read : Reads left after bytes
  pub refused : IsRefusedAt bytes number cause
  pub written : Took taken took (refusal_text number cause)

-- These bytes spell a script: the answer is Done, and the text is one of the texts of that script.
pub record AnswersScript (texts : TextsOf) (bytes : List ℕ) (status : Status) (text : List ℕ) : Type 0 where
  pub script : ScriptLists
  pub spelled : Spells bytes script
  pub status_is : status ≡ Done
  pub of_script : texts script text

-- These bytes are refused: the answer is so too, and the text is the refusal.
pub record AnswersRefusal (bytes : List ℕ) (status : Status) (text : List ℕ) : Type 0 where
  pub number : ℕ
  pub cause : Cause
  pub refused : IsRefusedAt bytes number cause
  pub status_is : status ≡ Refused number cause
  pub text_is : text ≡ refusal_text number cause

-- The status and the text of a reader's fault: a refusal gives its line and its cause, and want of memory has none.
abbrev pub RefusesAs : ScriptFault → Status → List ℕ → Type 0
RefusesAs (fault.Refused number cause) status text = (status ≡ Refused number cause) × (text ≡ refusal_text number cause)
RefusesAs fault.NoMemory status text = ⊥

-- the status and the text for these bytes
abbrev pub IsAnswerTo : TextsOf → List ℕ → Status → List ℕ → Type 0
IsAnswerTo texts bytes status text = AnswersScript texts bytes status text ⊎ AnswersRefusal bytes status text

-- The source's bytes were read, and the sink took no more than the front of their text or of their refusal.
pub record IsFrontOf (texts : TextsOf) (left after taken took : Option (List ℕ)) : Type 0 where
  pub bytes : List ℕ
  pub status : Status
  pub text : List ℕ
  pub count : ℕ
  pub read : Reads left after bytes
  pub answer : IsAnswerTo texts bytes status text
  pub written : Took taken took (take count text)

-- ---- answers

-- or memory ran out
abbrev pub OrNoMemory : Status → Status → Type 0
OrNoMemory status wanted = (status ≡ wanted) ⊎ (status ≡ NoMemory)

-- The answer to these bytes, unless memory ran out: Done where they spell a script, and else their refusal.
pub record AnswersBytes (status : Status) (bytes : List ℕ) : Type 0 where
  pub spelled : (script : ScriptLists) → Spells bytes script → OrNoMemory status Done
  pub refused : (number : ℕ) (cause : Cause) → IsRefusedAt bytes number cause → OrNoMemory status (Refused number cause)

-- The sink took the whole text of an answer, and the status is the answer's; or it failed, and took a front of the text.
abbrev pub IsWritten : Status → List ℕ → Option (List ℕ) → Option (List ℕ) → ℕ → ℕ → Status → Type 0
IsWritten answered text taken took faults faults_after status =
    ((status ≡ answered) × Took taken took text)
    ⊎ ((status ≡ WriteFault) × HasRisen faults faults_after × ((count : ℕ) × Took taken took (take count text)))

-- What the status says of a command that read a script: what the source had left before and after it, what the sink took,
-- and how often either failed.
pub record Serves {Sink : Type 0} (texts : TextsOf) (left after : Option (List ℕ)) (read_faults read_faults_after : ℕ)
    (sink sink_after : Sink) (taken took : Option (List ℕ)) (write_faults write_faults_after : ℕ) (status : Status) : Type 0 where
  pub no_usage : status ≢ Usage
  pub done : status ≡ Done → IsWrittenOf texts left after taken took
  pub refused : (line : ℕ) (cause : Cause) → status ≡ Refused line cause → IsRefused left after taken took line cause
  pub read_fault : status ≡ ReadFault → HasRisen read_faults read_faults_after × HasGiven left after × (sink_after ≡ sink)
  pub write_fault : status ≡ WriteFault → HasRisen write_faults write_faults_after × IsFrontOf texts left after taken took
  pub no_memory : status ≡ NoMemory → HasGiven left after × (sink_after ≡ sink)
  pub complete : ¬ HasRisen read_faults read_faults_after → ¬ HasRisen write_faults write_faults_after → IfSome left (AnswersBytes status)
  pub source_counts : read_faults ≤ read_faults_after
  pub sink_counts : write_faults ≤ write_faults_after

-- What the program promises of a command.
use Rattle.std.specs.Prelude.{◌≡◌, ◌≢◌, ◌↔◌, ℕ, ◌≤◌, List, take, Option, None, IfSome, IsSomeAnd}
use Rattle.edge_io.specs.Edges.{HasRisen, Took}
use Rattle.frame_script.specs.declared.cause.Cause.{Cause}
use Rattle.anim_top.specs.declared.arguments.Command.{Command}
use Rattle.anim_top.specs.declared.arguments.Command.TheVariants.{Run, Replay, Gen, Load}
use Rattle.anim_top.specs.declared.status.Status.{Status}
use Rattle.anim_top.specs.declared.status.Status.TheVariants.{Done, Usage, Refused, ReadFault, WriteFault, NoMemory}
use Rattle.anim_top.specs.Answers.{generated_text, load_text}
use Rattle.anim_top.specs.Outside.{AnswersBytes, FoundWord, HasGiven, IsFrontOf, IsRefused, IsWrittenOf, OrNoMemory, ReportFor, TextsOf, own_word}

-- What a command writes: one of the texts of the script that it reads from the source, or a text that it makes itself.
pub data Form : Type 1 where
  OfScript : TextsOf → Form
  OfItself : List ℕ → Form

-- The form of each command. A new command has one line here.
abbrev pub form_of : Command → Form
form_of Run = OfScript (ReportFor FoundWord)
form_of Replay = OfScript (ReportFor own_word)
form_of (Gen n) = OfItself (generated_text n)
form_of (Load n) = OfItself (load_text n)

-- It reads a script from the source.
abbrev pub ReadsScript : Form → Type 0
ReadsScript (OfScript texts) = Unit {0}
ReadsScript (OfItself text) = ⊥

-- It was done: the sink took its output and nothing else.
abbrev pub IsDone : Form → Option (List ℕ) → Option (List ℕ) → Option (List ℕ) → Option (List ℕ) → Type 0
IsDone (OfScript texts) left after taken took = IsWrittenOf texts left after taken took
IsDone (OfItself text) left after taken took = Took taken took text

-- The sink took no more than the front of its output.
abbrev pub IsCutShort : Form → Option (List ℕ) → Option (List ℕ) → Option (List ℕ) → Option (List ℕ) → Type 0
IsCutShort (OfScript texts) left after taken took = IsFrontOf texts left after taken took
IsCutShort (OfItself text) left after taken took = (count : ℕ) × Took taken took (take count text)

-- The answer over a source that has these bytes left, where it tells them, unless memory ran out.
abbrev pub Answers : Form → Option (List ℕ) → Status → Type 0
Answers (OfScript texts) left status = IfSome left (AnswersBytes status)
Answers (OfItself text) left status = OrNoMemory status Done

-- What the status says of the command that the arguments are, if they are one: of the source and the sink before and
-- after it, of what the source had left and how often it failed, and of what the sink took and how often it failed.
pub record KeepsPromises {Source Sink : Type 0} (asked : Option Command) (source source_after : Source) (left after : Option (List ℕ))
    (read_faults read_faults_after : ℕ) (sink sink_after : Sink) (taken took : Option (List ℕ)) (write_faults write_faults_after : ℕ)
    (status : Status) : Type 0 where
  -- The arguments are no command, and then nothing is read or written.
  pub usage : (status ≡ Usage) ↔ (asked ≡ None)
  pub untouched : status ≡ Usage → (source_after ≡ source) × (sink_after ≡ sink)
  -- A command that makes its text itself leaves the source as it is, and so meets no fault of it.
  pub unread : IsSomeAnd asked (λ c. ¬ ReadsScript (form_of c)) → (source_after ≡ source) × (status ≢ ReadFault)
  -- The command was done, and the sink took its output and nothing else. Where it reads a script, the source's bytes, read
  -- to their end, spell one. Of `run` the output is the report that the definitions give for that script and some word of
  -- it, which orders the steps of both lanes; and the laws of runs are true of that word. Of `replay` it is the report for
  -- the script's own word.
  pub done : status ≡ Done → IsSomeAnd asked (λ c. IsDone (form_of c) left after taken took)
  -- A script was read, the bytes are refused at this line for this cause, and the sink took the refusal and nothing else.
  pub refused : (line : ℕ) (cause : Cause) → status ≡ Refused line cause
      → IsSomeAnd asked (λ c. ReadsScript (form_of c)) × IsRefused left after taken took line cause
  -- A fault is a fault of the outside.
  pub read_fault : status ≡ ReadFault → HasRisen read_faults read_faults_after × HasGiven left after × (sink_after ≡ sink)
  pub write_fault : status ≡ WriteFault → HasRisen write_faults write_faults_after
      × IsSomeAnd asked (λ c. IsCutShort (form_of c) left after taken took)
  pub no_memory : status ≡ NoMemory → HasGiven left after × (sink_after ≡ sink)
  -- Where the outside has no fault, the answer is that of the command and of the bytes, unless memory ran out.
  pub complete : ¬ HasRisen read_faults read_faults_after → ¬ HasRisen write_faults write_faults_after
      → IfSome asked (λ c. Answers (form_of c) left status)
  pub source_counts : read_faults ≤ read_faults_after
  pub sink_counts : write_faults ≤ write_faults_after

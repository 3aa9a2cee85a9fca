-- What an answer that was written whole means for the bytes that were read.
use Rattle.std.proofs.Common.{◌≡◌, ◌≢◌, ℕ, ◌<◌, ◌≤◌, List, length, length-append, Option, Some, None, Result, Ok, Err, refl, ap, sym, subst, ◌∙◌, inl, inr, arith}
use Rattle.std.specs.Prelude.{IfOk, IfSome}
use Rattle.std.proofs.lemmas.Bool.{cases_lt}
use Rattle.edge_io.specs.Edges.{HasRisen, Took}
use Rattle.frame_script.specs.declared.TheConstants.{MOST_BYTES}
use Rattle.frame_script.specs.declared.cause.Cause.{Cause}
use Rattle.frame_script.specs.declared.cause.Cause.TheVariants.{TooLong}
use Rattle.frame_script.specs.declared.fault.ScriptFault.{ScriptFault}
use Rattle.frame_script.specs.declared.fault.ScriptFault.TheVariants as fault
use Rattle.frame_script.specs.Texts.{IsRefusedAt, IsWhy}
use Rattle.frame_script.proofs.Leads.{not_spelled_and_refused, one_refusal}
use Rattle.anim_names.specs.declared.lane.Lane.{Lane}
use Rattle.run_rules.specs.Scripts.{IsWordOf, ScriptLists}
use Rattle.word_machine.specs.Laws.{KeepsLaws}
use Rattle.anim_top.specs.declared.status.Status.{Status}
use Rattle.anim_top.specs.declared.status.Status.TheVariants.{Done, Usage, Refused, ReadFault, WriteFault, NoMemory}
use Rattle.anim_top.specs.Outside.{AnswersBytes, FoundWord, HasGiven, IsAnswerTo, IsRefused, IsWritten, IsWrittenOf, Reads, RefusesAs, Serves, TextsOf}

-- ---- what was written

module _ (texts : TextsOf) (left after taken took : Option (List ℕ)) (bytes : List ℕ) (status : Status) (text : List ℕ) (read : Reads left after bytes) where
  pub is_written_of : Took taken took text → IsAnswerTo texts bytes status text → status ≡ Done → IsWrittenOf texts left after taken took
  is_written_of written (inl answer) done = record {
    bytes = bytes;
    script = answer.script;
    text = text;
    read = read.given;
    whole = read.whole answer.spelled.short;
    spelled = answer.spelled;
    of_script = answer.of_script;
    written = written;
  }
  is_written_of written (inr answer) done = absurd (refused-not_done answer.number answer.cause (sym answer.status_is ∙ done))
    where
      refused-not_done : (number : ℕ) (cause : Cause) → Refused number cause ≡ Done → ⊥
      refused-not_done number cause e = cc

  pub is_refused : Took taken took text → IsAnswerTo texts bytes status text → (number : ℕ) (cause : Cause) → status ≡ Refused number cause → IsRefused left after taken took number cause
  is_refused written (inl answer) number cause refused = absurd (done-not_refused (sym answer.status_is ∙ refused))
    where
      done-not_refused : Done ≡ Refused number cause → ⊥
      done-not_refused e = cc
  is_refused written (inr answer) number cause refused =
      let same = refusal_is answer.number number answer.cause cause (sym answer.status_is ∙ refused) in
      subst (λ (n : ℕ). IsRefused left after taken took n cause) same.0
      (subst (λ (c : Cause). IsRefused left after taken took answer.number c) same.1
      (record {
        bytes = bytes;
        read = read;
        refused = answer.refused;
        written = subst (λ (t : List ℕ). Took taken took t) answer.text_is written;
      }))
    where
      refusal_is : (n m : ℕ) (c d : Cause) → Refused n c ≡ Refused m d → (n ≡ m) × (c ≡ d)
      refusal_is n m c d e = (cc, cc)

-- ---- the answer to all bytes of a source

-- a source that tells its bytes told these, or both are too long
too_long_at : (bytes : List ℕ) → MOST_BYTES < length bytes → IsRefusedAt bytes 0 TooLong
too_long_at bytes long = inl (record { long = long; number_is = refl; cause_is = refl })

answers_same : (texts : TextsOf) (bytes : List ℕ) (status : Status) (text : List ℕ) → IsAnswerTo texts bytes status text → AnswersBytes status bytes
answers_same texts bytes status text (inl answer) = record {
  spelled = λ script spelled. inl answer.status_is;
  refused = λ number cause refused. absurd (not_spelled_and_refused bytes answer.script number cause answer.spelled refused);
}
answers_same texts bytes status text (inr answer) = record {
  spelled = λ script spelled. absurd (not_spelled_and_refused bytes script answer.number answer.cause spelled answer.refused);
  refused = λ number cause refused.
      let same = one_refusal bytes answer.number number answer.cause cause answer.refused refused in
      inl (answer.status_is ∙ ap (λ n. Refused n answer.cause) same.0 ∙ ap (Refused number) same.1);
}

-- Too many bytes are refused alike, whichever of them were read.
answers_long : (texts : TextsOf) (all bytes : List ℕ) (status : Status) (text : List ℕ) → MOST_BYTES < length all → MOST_BYTES < length bytes → IsAnswerTo texts bytes status text → AnswersBytes status all
answers_long texts all bytes status text long_all long (inl answer) =
    absurd (not_spelled_and_refused bytes answer.script 0 TooLong answer.spelled (too_long_at bytes long))
answers_long texts all bytes status text long_all long (inr answer) = record {
  spelled = λ script spelled. absurd (not_spelled_and_refused all script 0 TooLong spelled (too_long_at all long_all));
  refused = λ number cause refused.
      let here = one_refusal bytes answer.number 0 answer.cause TooLong answer.refused (too_long_at bytes long) in
      let there = one_refusal all 0 number TooLong cause (too_long_at all long_all) refused in
      inl (answer.status_is ∙ ap (λ n. Refused n answer.cause) (here.0 ∙ there.0) ∙ ap (Refused number) (here.1 ∙ there.1));
}

pub is_answer : (texts : TextsOf) (left after : Option (List ℕ)) (bytes : List ℕ) (status : Status) (text : List ℕ) → Reads left after bytes → IsAnswerTo texts bytes status text → IfSome left (AnswersBytes status)
is_answer texts None after bytes status text read answer = tt
is_answer texts (Some all) None bytes status text read answer = absurd read.given
is_answer texts (Some all) (Some rest) bytes status text read answer =
    elim (cases_lt MOST_BYTES (length bytes)) [
      | inl long ↦
          let longer : MOST_BYTES < length all = rw read.given (omega (arith, length-append bytes rest)) in
          answers_long texts all bytes status text longer long answer
      | inr short ↦ subst (λ (b : List ℕ). AnswersBytes status b) (sym (read.whole short)) (answers_same texts bytes status text answer)
    ]

-- ---- a command that reads a script

no_fault : (texts : TextsOf) (bytes : List ℕ) (status : Status) (text : List ℕ) → IsAnswerTo texts bytes status text → (status ≢ Usage) × (status ≢ ReadFault) × (status ≢ WriteFault) × (status ≢ NoMemory)
no_fault texts bytes status text (inl answer) = let is = answer.status_is in (λ e. cc, λ e. cc, λ e. cc, λ e. cc)
no_fault texts bytes status text (inr answer) = let is = answer.status_is in (λ e. cc, λ e. cc, λ e. cc, λ e. cc)

no_memory_answers : (left : Option (List ℕ)) → IfSome left (AnswersBytes NoMemory)
no_memory_answers None = tt
no_memory_answers (Some all) = record { spelled = λ script spelled. inr refl; refused = λ number cause refused. inr refl }

-- the bytes that were read were given
pub given_of : {left after : Option (List ℕ)} {bytes : List ℕ} → Reads left after bytes → HasGiven left after
given_of {bytes = bytes} read = record { bytes = bytes; given = read.given; few = read.few }

module _ {Sink : Type 0} {texts : TextsOf} {left after : Option (List ℕ)} {read_faults read_faults_after : ℕ} where
  pub serves_fault : {sink : Sink} {taken : Option (List ℕ)} {faults : ℕ} → HasGiven left after → HasRisen read_faults read_faults_after → read_faults ≤ read_faults_after
      → Serves texts left after read_faults read_faults_after sink sink taken taken faults faults ReadFault
  serves_fault given risen counts = record {
    no_usage = λ e. cc;
    done = λ e. absurd cc;
    refused = λ line cause e. absurd cc;
    read_fault = λ e. (risen, given, refl);
    write_fault = λ e. absurd cc;
    no_memory = λ e. absurd cc;
    complete = λ unread unwritten. absurd (unread risen);
    source_counts = counts;
    sink_counts = omega arith;
  }

  pub serves_no_memory : {sink : Sink} {taken : Option (List ℕ)} {faults : ℕ} → HasGiven left after → read_faults ≤ read_faults_after
      → Serves texts left after read_faults read_faults_after sink sink taken taken faults faults NoMemory
  serves_no_memory given counts = record {
    no_usage = λ e. cc;
    done = λ e. absurd cc;
    refused = λ line cause e. absurd cc;
    read_fault = λ e. absurd cc;
    write_fault = λ e. absurd cc;
    no_memory = λ e. (given, refl);
    complete = λ unread unwritten. no_memory_answers left;
    source_counts = counts;
    sink_counts = omega arith;
  }

  pub serves_answer : {sink sink_after : Sink} {taken took : Option (List ℕ)} {faults faults_after : ℕ} {bytes items text : List ℕ} {answered status : Status}
      → Reads left after items → bytes ≡ items → IsAnswerTo texts bytes answered text → IsWritten answered text taken took faults faults_after status
      → read_faults ≤ read_faults_after → faults ≤ faults_after
      → Serves texts left after read_faults read_faults_after sink sink_after taken took faults faults_after status
  serves_answer {taken = taken} {took = took} {items = items} {text = text} {answered = answered} read same answer (inl (is, written)) counts counts_too =
      let here = subst (λ (b : List ℕ). IsAnswerTo texts b answered text) same answer in
      let none = no_fault texts items answered text here in record {
        no_usage = λ e. none.0 (sym is ∙ e);
        done = λ e. is_written_of texts left after taken took items answered text read written here (sym is ∙ e);
        refused = λ line cause e. is_refused texts left after taken took items answered text read written here line cause (sym is ∙ e);
        read_fault = λ e. absurd (none.1 (sym is ∙ e));
        write_fault = λ e. absurd (none.2 (sym is ∙ e));
        no_memory = λ e. absurd (none.3 (sym is ∙ e));
        complete = λ unread unwritten. subst (λ (s : Status). IfSome left (AnswersBytes s)) (sym is) (is_answer texts left after items answered text read here);
        source_counts = counts;
        sink_counts = counts_too;
      }
  serves_answer {taken = taken} {took = took} {items = items} {text = text} {answered = answered} read same answer (inr (is, risen, (count, front))) counts counts_too =
      let here = subst (λ (b : List ℕ). IsAnswerTo texts b answered text) same answer in record {
        no_usage = λ e. cc;
        done = λ e. absurd cc;
        refused = λ line cause e. absurd cc;
        read_fault = λ e. absurd cc;
        write_fault = λ e. (risen, record { bytes = items; status = answered; text = text; count = count; read = read; answer = here; written = front });
        no_memory = λ e. absurd cc;
        complete = λ unread unwritten. absurd (unwritten risen);
        source_counts = counts;
        sink_counts = counts_too;
      }

-- ---- a reader's fault, and a word that is found

pub if_ok_so : {T E : Type 0} {P Q : T → Type 0} (r : Result T E) → ((value : T) → P value → Q value) → IfOk r P → IfOk r Q
if_ok_so (Ok value) f p = f value p
if_ok_so (Err error) f p = tt

-- a word that orders the steps, and of which the laws are true, is found
pub found_if_ok : {T E : Type 0} (script : ScriptLists) (word : T → List Lane) (r : Result T E) → IfOk r (λ value. IsWordOf (length script.main) (length script.compositor) (word value)) → IfOk r (λ value. KeepsLaws script (word value)) → IfOk r (λ value. FoundWord script (word value))
found_if_ok script word (Ok value) orders laws = record { orders = orders; laws = laws }
found_if_ok script word (Err error) orders laws = tt

-- a refusal is the answer to what it refuses, whatever the texts of a script
pub refusal-answers : (texts : TextsOf) (bytes : List ℕ) (why : ScriptFault) (status : Status) (text : List ℕ) → IsWhy bytes why → RefusesAs why status text → IsAnswerTo texts bytes status text
refusal-answers texts bytes (fault.Refused number cause) status text refused is =
    inr (record { number = number; cause = cause; refused = refused; status_is = is.0; text_is = is.1 })
refusal-answers texts bytes fault.NoMemory status text refused is = absurd is

-- Every run of a script keeps the laws of runs.
use Rattle.std.proofs.Common.{List}
use Rattle.anim_names.specs.declared.lane.Lane.{Lane}
use Rattle.run_laws.specs.Shown.{lanes_at}
use Rattle.run_laws.proofs.EndLaws.{aborted_was_active, models_end_once}
use Rattle.run_laws.proofs.GroupLaws.{finishes_together, one_blocker, starts_together, targets_present}
use Rattle.run_laws.proofs.HearingLemmas.{counts_add_up, heard_once}
use Rattle.run_laws.proofs.NumberLemmas.{numbers_never_fall}
use Rattle.run_laws.proofs.ShownLaws.{all_show_activated, skipped_is_silent}
use Rattle.run_rules.specs.Scripts.{IsWellFormed, ScriptLists}
use Rattle.word_machine.specs.Laws.{KeepsLaws}

pub keeps_laws : (script : ScriptLists) → IsWellFormed script → (word : List Lane) → KeepsLaws script word
keeps_laws script well word = record {
  numbers = numbers_never_fall script word;
  shown = all_show_activated script word;
  silent = skipped_is_silent script word;
  start_together = λ front letter part. starts_together script well front letter;
  targets = λ front letter part. targets_present (lanes_at script front) letter;
  finish_together = λ front letter part. finishes_together script well front letter;
  one_blocker = λ front part. one_blocker script well front;
  ends_once = models_end_once script well word;
  aborted = λ front letter part. aborted_was_active (lanes_at script front) letter;
  heard = heard_once script word;
  counts = counts_add_up script word;
}

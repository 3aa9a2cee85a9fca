use Rattle.std.proofs.Common.{◌≡◌, ◌++◌, drop, option_map}
use Rattle.script_fields.specs.Fields.{all_say}
use Rattle.script_fields.specs.Keywords.{letter_said}
use Rattle.script_fields.proofs.keywords.all_letters.Given as goal

abbrev pub invariant-loop-byte : goal.invariant-loop-byte
invariant-loop-byte l = record {
  so_far : option_map (λ word. l.word.items ++ word) (all_say letter_said (drop l.byte-index l.bytes)) ≡ all_say letter_said l.bytes;
}

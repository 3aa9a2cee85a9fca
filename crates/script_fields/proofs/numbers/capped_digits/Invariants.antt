use Rattle.std.proofs.Common.{◌≡◌, ◌≤◌, drop}
use Rattle.script_fields.specs.Numbers.{read_on}
use Rattle.script_fields.proofs.Digits.{capped}
use Rattle.script_fields.proofs.numbers.capped_digits.Given as goal

abbrev pub invariant-loop-digit : goal.invariant-loop-digit
invariant-loop-digit l = record {
  so_far : capped 18446744073709551615 (read_on l.value (drop l.digit-index l.digits)) ≡ capped 18446744073709551615 (read_on 0 l.digits);
  small : l.value ≤ 18446744073709551615;
}

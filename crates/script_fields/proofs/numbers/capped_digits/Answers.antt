use Rattle.std.proofs.Common.{arith, rules}
use Rattle.script_fields.proofs.Digits.{goes_on, ends}
use Rattle.script_fields.proofs.numbers.capped_digits.Goals as goal

pub loop-digit-preserved : goal.loop-digit-preserved
loop-digit-preserved c =
    record {
      so_far = goes_on 18446744073709551615 c.loop-digit.value c.saturating_add-value.result c.loop-digit.digit-index c.args.digits.now _ c.loop-digit-test.true (search rules) (omega (arith, c.saturating_mul.ensures, c.saturating_add-value.ensures)) c.loop-digit.invariant.so_far;
      small = omega arith;
    }

pub returns : goal.returns
returns c = ends 18446744073709551615 c.loop-digit.value c.loop-digit.digit-index c.args.digits.now _ c.loop-digit-test.false (omega arith) c.loop-digit.invariant.so_far

-- Each turn takes one key from the front of those that are left.
use Rattle.std.proofs.Common.{arith}
use Rattle.std.proofs.lemmas.Grind.{common_steps}
use Rattle.curve_keys.proofs.curve.is_rising_from.Goals as goal

pub loop-key-preserved : goal.loop-key-preserved
loop-key-preserved g c = grind (arith, common_steps)

pub returns-then-key-time : goal.returns-then-key-time
returns-then-key-time g c = grind (arith, common_steps)

pub returns : goal.returns
returns g c = grind (arith, common_steps)

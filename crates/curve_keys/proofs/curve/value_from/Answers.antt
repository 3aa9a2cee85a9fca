-- Each turn takes one key from the front of those that are left.
use Rattle.std.proofs.Common.{arith}
use Rattle.std.proofs.lemmas.Grind.{common_steps}
use Rattle.curve_keys.proofs.curve.value_from.Goals as goal

pub loop-to-preserved : goal.loop-to-preserved
loop-to-preserved g c = grind (arith, common_steps)

pub returns-then-time-to-clause-value : goal.returns-then-time-to-clause-value
returns-then-time-to-clause-value g c = grind (arith, common_steps)

pub returns-clause-value : goal.returns-clause-value
returns-clause-value g c = grind (arith, common_steps)

pub value_before-requires-clause-short : goal.value_before-requires-clause-short
value_before-requires-clause-short g c = grind (arith, common_steps)

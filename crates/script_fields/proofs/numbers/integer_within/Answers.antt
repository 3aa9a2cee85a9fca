use Rattle.std.proofs.Common.{arith}
use Rattle.std.proofs.lemmas.Grind.{common_steps}
use Rattle.script_fields.proofs.numbers.integer_within.Goals as goal

pub returns-in-45-clause-value : goal.returns-in-45-clause-value
returns-in-45-clause-value c = grind (arith, common_steps)

pub returns-in_ok-size-in_default-clause-value : goal.returns-in_ok-size-in_default-clause-value
returns-in_ok-size-in_default-clause-value c = grind (arith, common_steps)

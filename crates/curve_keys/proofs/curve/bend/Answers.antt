-- Each number on the way fits its type, so the bent time is the one that the contract names.
use Rattle.std.proofs.Common.{arith}
use Rattle.std.proofs.lemmas.Int.{ints, to_z-of_z}
use Rattle.std.proofs.lemmas.Grind.{common_steps}
use Rattle.curve_keys.proofs.curve.bend.Goals as goal

pub overflow_cast-progress : goal.overflow_cast-progress
overflow_cast-progress c = grind (arith, common_steps)

pub overflow_mul-bent : goal.overflow_mul-bent
overflow_mul-bent c = grind (arith, ints)

pub returns-clause-value : goal.returns-clause-value
returns-clause-value c = grind (arith, to_z-of_z, common_steps)

pub returns-clause-within : goal.returns-clause-within
returns-clause-within c = omega (arith, ints)

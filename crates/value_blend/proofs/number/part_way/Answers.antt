-- No number is lost on the way: each fits its type.
use Rattle.std.proofs.Common.{arith}
use Rattle.std.proofs.lemmas.Int.{ints, to_z-of_z}
use Rattle.value_blend.proofs.number.part_way.Goals as goal

pub returns-clause-value : goal.returns-clause-value
returns-clause-value c = grind (arith, ints, to_z-of_z, c.covered.ensures.value, c.distance.ensures.value)

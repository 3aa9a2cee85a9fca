use Rattle.std.proofs.Common.{arith}
use Rattle.std.proofs.lemmas.Bool.Decides.{nat_tests}
use Rattle.std.proofs.lemmas.Int.{to_z-of_z}
use Rattle.transform_ops.proofs.Matching.{rest_from_none, rest_to_none}
use Rattle.transform_ops.proofs.list.push_rest.Goals as goal

pub returns-then-is_empty : goal.returns-then-is_empty
returns-then-is_empty c =
    let fits = c.ranges.progress in
    rw (rest_from_none c.args.from.now c.args.to.now c.args.progress (grind (arith, nat_tests))) (simp to_z-of_z at c.push_from_neutral.ensures)

pub returns-then-is_empty-2 : goal.returns-then-is_empty-2
returns-then-is_empty-2 c =
    let fits = c.ranges.progress in
    rw (rest_to_none c.args.from.now c.args.to.now c.args.progress (grind (arith, nat_tests))) (simp to_z-of_z at c.push_to_neutral.ensures)

use Rattle.std.proofs.Common.{arith}
use Rattle.std.proofs.lemmas.Grind.{common_steps}
use Rattle.std.proofs.lemmas.Int.{to_z-of_z}
use Rattle.std.proofs.lemmas.List.{take_all}
use Rattle.transform_ops.proofs.list.push_to_neutral.Goals as goal

pub returns : goal.returns
returns c =
    let fits = c.ranges.progress in
    let all = take_all c.loop-a.a-index c.args.from.now c.loop-a-test.false in
    rw all at (simp to_z-of_z at c.loop-a.invariant)

pub loop-a-preserved : goal.loop-a-preserved
loop-a-preserved c = grind (arith, common_steps)

pub blend-requires-clause-from_within : goal.blend-requires-clause-from_within
blend-requires-clause-from_within c = grind (arith, common_steps)

pub blend-requires-clause-to_within : goal.blend-requires-clause-to_within
blend-requires-clause-to_within c = grind (arith, common_steps)

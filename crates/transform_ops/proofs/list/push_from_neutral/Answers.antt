use Rattle.std.proofs.Common.{arith}
use Rattle.std.proofs.lemmas.Grind.{common_steps}
use Rattle.std.proofs.lemmas.Int.{to_z-of_z}
use Rattle.std.proofs.lemmas.List.{take_all}
use Rattle.transform_ops.proofs.list.push_from_neutral.Goals as goal

pub returns : goal.returns
returns c =
    let fits = c.ranges.progress in
    let all = take_all c.loop-b.b-index c.args.to.now c.loop-b-test.false in
    rw all at (simp to_z-of_z at c.loop-b.invariant)

pub loop-b-preserved : goal.loop-b-preserved
loop-b-preserved c = grind (arith, common_steps)

pub blend-requires-clause-from_within : goal.blend-requires-clause-from_within
blend-requires-clause-from_within c = grind (arith, common_steps)

pub blend-requires-clause-to_within : goal.blend-requires-clause-to_within
blend-requires-clause-to_within c = grind (arith, common_steps)

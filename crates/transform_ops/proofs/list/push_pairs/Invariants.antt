use Rattle.std.proofs.Common.{◌≡◌, ◌++◌, length}
use Rattle.transform_ops.proofs.Matching.{front}
use Rattle.transform_ops.proofs.list.push_pairs.Given as goal

-- the blends so far are those of the pairs so far
abbrev pub invariant-loop-a : goal.invariant-loop-a
invariant-loop-a l = l.ops.items ≡ l.initial.ops.items ++ front (length l.yielded) l.from l.to l.fn.progress

use Rattle.std.proofs.Common.{◌≡◌, take}
use Rattle.active_tree.specs.Samples.{counts_of}
use Rattle.active_tree.proofs.sampling.latest_of.Given as goal

abbrev pub invariant-loop-i : goal.invariant-loop-i
invariant-loop-i g l =
    (l.sampled ≡ l.fn.sampled)
    × (l.latest ≡ counts_of l.fn.sampled.tree (g.S.StartTable.starts l.starts) l.time l.property (take l.i l.list))

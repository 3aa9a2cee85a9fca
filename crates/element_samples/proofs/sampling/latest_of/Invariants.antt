use Rattle.std.proofs.Common.{◌≡◌, None, drop}
use Rattle.element_samples.proofs.SamplingLemmas.{best_of_all}
use Rattle.element_samples.proofs.sampling.latest_of.Given as goal

abbrev pub invariant-loop-i : goal.invariant-loop-i
invariant-loop-i g l =
    best_of_all l.commit.tree (g.S.StartTable.starts l.starts) l.time l.element l.property l.latest (drop l.i l.commit.tree.models)
    ≡ best_of_all l.commit.tree (g.S.StartTable.starts l.starts) l.time l.element l.property None l.commit.tree.models

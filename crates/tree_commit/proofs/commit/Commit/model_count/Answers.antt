use Rattle.std.proofs.Common.{nat_eq, subst}
use Rattle.std.specs.List.{IsDistinct}
use Rattle.tree_commit.proofs.commit.Commit.model_count.Goals as goal

pub returns-clause-differ : goal.returns-clause-differ
returns-clause-differ c =
    rw (← c.self.view_is) (subst (IsDistinct nat_eq) c.self.invariant.0 c.len.ensures.unique)

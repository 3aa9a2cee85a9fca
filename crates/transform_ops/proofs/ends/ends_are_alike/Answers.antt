use Rattle.transform_ops.specs.ListLemmas.{blend_lists-begin, blend_lists-end}
use Rattle.transform_ops.proofs.ends.ends_are_alike.Goals as goal

pub returns-clause-begin : goal.returns-clause-begin
returns-clause-begin c from to h = blend_lists-begin from to h

pub returns-clause-end : goal.returns-clause-end
returns-clause-end c from to h = blend_lists-end from to h

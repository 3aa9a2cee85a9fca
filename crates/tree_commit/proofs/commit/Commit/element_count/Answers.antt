use Rattle.tree_commit.proofs.TableLemmas.{ids_of_elements}
use Rattle.tree_commit.proofs.commit.Commit.element_count.Goals as goal

pub returns-clause-differ : goal.returns-clause-differ
returns-clause-differ c = rw (← c.self.view_is, ids_of_elements) c.len.ensures.unique

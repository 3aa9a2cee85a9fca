use Rattle.run_laws.proofs.TreeLaws.{main_is_within_limits}
use Rattle.run_laws.proofs.main_tree.main_is_within_limits.Goals as goal

pub returns : goal.returns
returns c = main_is_within_limits

use Rattle.run_laws.proofs.TreeLaws.{none_returns}
use Rattle.run_laws.proofs.main_tree.no_model_returns.Goals as goal

pub returns : goal.returns
returns c = none_returns

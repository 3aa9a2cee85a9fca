use Rattle.run_laws.proofs.TreeLaws.{no_group_grows}
use Rattle.run_laws.proofs.main_tree.no_group_grows.Goals as goal

pub returns : goal.returns
returns c = no_group_grows

use Rattle.run_laws.proofs.TreeLaws.{groups_agree}
use Rattle.run_laws.proofs.main_tree.groups_agree.Goals as goal

pub returns : goal.returns
returns c = groups_agree

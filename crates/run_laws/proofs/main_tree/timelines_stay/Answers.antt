use Rattle.run_laws.proofs.TreeLaws.{timelines_stay}
use Rattle.run_laws.proofs.main_tree.timelines_stay.Goals as goal

pub returns : goal.returns
returns c = timelines_stay

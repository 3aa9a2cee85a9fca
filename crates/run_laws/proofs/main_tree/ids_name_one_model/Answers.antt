use Rattle.run_laws.proofs.TreeLaws.{ids_name_one_model}
use Rattle.run_laws.proofs.main_tree.ids_name_one_model.Goals as goal

pub returns : goal.returns
returns c = ids_name_one_model

use Rattle.run_laws.proofs.GroupLaws.{targets_present}
use Rattle.run_laws.proofs.groups.targets_are_present.Goals as goal

pub returns : goal.returns
returns c = targets_present

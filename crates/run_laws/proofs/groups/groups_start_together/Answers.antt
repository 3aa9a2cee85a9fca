use Rattle.run_laws.proofs.GroupLaws.{starts_together}
use Rattle.run_laws.proofs.groups.groups_start_together.Goals as goal

pub returns : goal.returns
returns c = starts_together

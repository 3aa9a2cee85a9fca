use Rattle.run_laws.proofs.GroupLaws.{finishes_together}
use Rattle.run_laws.proofs.groups.groups_finish_together.Goals as goal

pub returns : goal.returns
returns c = finishes_together

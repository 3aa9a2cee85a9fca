use Rattle.run_laws.proofs.GroupLaws.{one_blocker}
use Rattle.run_laws.proofs.groups.one_group_blocks.Goals as goal

pub returns : goal.returns
returns c = one_blocker

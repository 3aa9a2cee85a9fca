use Rattle.run_laws.proofs.EndLaws.{groups_are_whole}
use Rattle.run_laws.proofs.active_commit.groups_are_whole.Goals as goal

pub returns : goal.returns
returns c = groups_are_whole

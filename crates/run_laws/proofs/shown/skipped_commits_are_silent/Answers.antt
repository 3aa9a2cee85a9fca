use Rattle.run_laws.proofs.ShownLaws.{skipped_is_silent}
use Rattle.run_laws.proofs.shown.skipped_commits_are_silent.Goals as goal

pub returns : goal.returns
returns c = skipped_is_silent

use Rattle.run_laws.proofs.BookLaws.{commits_only_grow}
use Rattle.run_laws.proofs.growth.commits_only_grow.Goals as goal

pub returns : goal.returns
returns c = commits_only_grow

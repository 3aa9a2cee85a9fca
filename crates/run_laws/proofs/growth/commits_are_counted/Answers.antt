use Rattle.run_laws.proofs.CountLaws.{commits_are_counted}
use Rattle.run_laws.proofs.growth.commits_are_counted.Goals as goal

pub returns : goal.returns
returns c = commits_are_counted

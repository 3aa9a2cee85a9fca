use Rattle.run_laws.proofs.EventLaws.{events_are_few}
use Rattle.run_laws.proofs.numbers.events_are_few.Goals as goal

pub returns : goal.returns
returns c = events_are_few

use Rattle.run_laws.proofs.NumberLaws.{local_times_are_small}
use Rattle.run_laws.proofs.numbers.local_times_are_small.Goals as goal

pub returns : goal.returns
returns c = local_times_are_small

use Rattle.run_laws.proofs.NumberLaws.{starts_are_small}
use Rattle.run_laws.proofs.numbers.recorded_starts_are_small.Goals as goal

pub returns : goal.returns
returns c = starts_are_small

use Rattle.run_laws.proofs.NumberLemmas.{numbers_never_fall}
use Rattle.run_laws.proofs.shown.commit_numbers_never_fall.Goals as goal

pub returns : goal.returns
returns c = numbers_never_fall

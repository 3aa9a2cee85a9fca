use Rattle.run_laws.proofs.WordLemmas.{word_grows}
use Rattle.run_laws.proofs.growth.marks_only_grow.Goals as goal

pub returns : goal.returns
returns c = word_grows

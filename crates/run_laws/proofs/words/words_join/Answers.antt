use Rattle.run_laws.proofs.WordLemmas.{after-append}
use Rattle.run_laws.proofs.words.words_join.Goals as goal

pub returns : goal.returns
returns c = after-append

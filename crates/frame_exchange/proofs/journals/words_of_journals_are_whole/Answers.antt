use Rattle.frame_exchange.proofs.WordLemmas.{word_of_steps}
use Rattle.frame_exchange.proofs.journals.words_of_journals_are_whole.Goals as goal

pub returns : goal.returns
returns c = word_of_steps

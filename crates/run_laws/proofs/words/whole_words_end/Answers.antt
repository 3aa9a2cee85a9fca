use Rattle.run_laws.proofs.CountLaws.{whole_words_end}
use Rattle.run_laws.proofs.words.whole_words_end.Goals as goal

pub returns : goal.returns
returns c = whole_words_end

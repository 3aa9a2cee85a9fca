use Rattle.run_laws.proofs.BookLaws.{learnt_stays}
use Rattle.run_laws.proofs.growth.what_was_learnt_stays.Goals as goal

pub returns : goal.returns
returns c = learnt_stays

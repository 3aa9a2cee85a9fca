use Rattle.std.proofs.Common.{refl}
use Rattle.worked_scripts.proofs.Opened.{whole_run}
use Rattle.worked_scripts.proofs.refusals.one_model_too_many.Goals as goal

pub returns : goal.returns
unfolding whole_run
returns c = refl

use Rattle.run_laws.proofs.EndLaws.{aborted_was_active}
use Rattle.run_laws.proofs.ends.aborted_models_were_active.Goals as goal

pub returns : goal.returns
returns c = aborted_was_active

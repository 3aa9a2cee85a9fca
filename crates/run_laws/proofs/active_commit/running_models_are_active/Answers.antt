use Rattle.run_laws.proofs.RunningLemmas.{running_is_active}
use Rattle.run_laws.proofs.active_commit.running_models_are_active.Goals as goal

pub returns : goal.returns
returns c = running_is_active

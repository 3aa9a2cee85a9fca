use Rattle.run_laws.proofs.EndLaws.{ended_had_started}
use Rattle.run_laws.proofs.active_commit.ended_models_had_started.Goals as goal

pub returns : goal.returns
returns c = ended_had_started

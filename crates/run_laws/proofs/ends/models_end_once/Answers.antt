use Rattle.run_laws.proofs.EndLaws.{models_end_once}
use Rattle.run_laws.proofs.ends.models_end_once.Goals as goal

pub returns : goal.returns
returns c = models_end_once

use Rattle.run_laws.proofs.GroupLaws.{marked_are_active}
use Rattle.run_laws.proofs.active_commit.marked_models_are_active.Goals as goal

pub returns : goal.returns
returns c = marked_are_active

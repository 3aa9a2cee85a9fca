use Rattle.run_laws.proofs.FollowLaws.{known_were_added}
use Rattle.run_laws.proofs.following.known_models_were_added.Goals as goal

pub returns : goal.returns
returns c = known_were_added

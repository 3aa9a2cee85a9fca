use Rattle.run_laws.proofs.FollowLaws.{pending_follows}
use Rattle.run_laws.proofs.following.pulled_commits_follow.Goals as goal

pub returns : goal.returns
returns c = pending_follows

use Rattle.run_laws.proofs.ShownLaws.{all_show_activated}
use Rattle.run_laws.proofs.shown.frames_show_activated_commits.Goals as goal

pub returns : goal.returns
returns c = all_show_activated

use Rattle.frame_script.proofs.Sound.{spelled_is_well_formed}
use Rattle.frame_script.proofs.laws.spelled_scripts_are_well_formed.Goals as goal

pub returns : goal.returns
returns c = spelled_is_well_formed

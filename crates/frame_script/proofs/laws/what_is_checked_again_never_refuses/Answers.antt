use Rattle.frame_script.proofs.Again.{last_key_is_taken}
use Rattle.frame_script.proofs.laws.what_is_checked_again_never_refuses.Goals as goal

pub returns : goal.returns
returns c = last_key_is_taken

use Rattle.anim_host.proofs.ShownLemmas.{frame-same}
use Rattle.anim_host.proofs.laws.the_frame_is_that_of_the_marks.Goals as goal

pub returns : goal.returns
returns c = frame-same

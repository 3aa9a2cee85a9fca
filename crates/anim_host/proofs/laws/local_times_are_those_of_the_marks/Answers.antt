use Rattle.anim_host.proofs.ShownLemmas.{locals-same}
use Rattle.anim_host.proofs.laws.local_times_are_those_of_the_marks.Goals as goal

pub returns : goal.returns
returns c = locals-same

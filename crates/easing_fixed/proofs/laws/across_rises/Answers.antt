use Rattle.easing_fixed.proofs.Rising.{across-rises}
use Rattle.easing_fixed.proofs.laws.across_rises.Goals as goal

pub returns : goal.returns
returns c = across-rises

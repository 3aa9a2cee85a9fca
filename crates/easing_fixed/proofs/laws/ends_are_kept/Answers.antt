use Rattle.easing_fixed.proofs.Places.{cubic_value-zero, cubic_value-one}
use Rattle.easing_fixed.proofs.laws.ends_are_kept.Goals as goal

pub returns : goal.returns
returns c = λ parts p1 p2. (cubic_value-zero parts p1 p2, cubic_value-one parts p1 p2)

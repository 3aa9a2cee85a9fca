use Rattle.easing_fixed.proofs.Places.{place-brackets}
use Rattle.easing_fixed.proofs.laws.place_brackets_the_root.Goals as goal

pub returns : goal.returns
returns c = λ x1 x2 p a b p1 p2 inside some root. place-brackets x1 x2 p a b p1 p2 inside root some

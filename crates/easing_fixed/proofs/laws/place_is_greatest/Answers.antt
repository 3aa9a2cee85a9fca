use Rattle.std.proofs.Common.{sym, subst}
use Rattle.easing_fixed.specs.Cubics.{IsPlace}
use Rattle.easing_fixed.proofs.Places.{place-IsPlace, IsPlace-place}
use Rattle.easing_fixed.proofs.laws.place_is_greatest.Goals as goal

pub returns : goal.returns
returns c = λ x1 x2 p s p1 p2. (IsPlace-place x1 x2 p s p1 p2, λ e. subst (IsPlace x1 x2 p) (sym e) (place-IsPlace x1 x2 p p1 p2))

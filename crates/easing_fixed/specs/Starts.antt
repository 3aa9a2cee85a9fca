-- The start table of a cubic: how far across the curve is at the ends of sixteen intervals of its parameter. Its numbers
-- are those of the same curve in sixteen steps, which are those of `across ONE` divided by stride * stride * stride.
use Rattle.std.specs.Prelude.{ℕ, zero, suc, ◌+◌, List, [], ◌∷◌}
use Rattle.easing_fixed.specs.Cubics.{across}

abbrev pub intervals : ℕ
intervals = 16

-- how many steps an interval has
abbrev pub stride : ℕ
stride = 65536

-- this many of the table's numbers, from this one on
abbrev pub starts_from : ℕ → ℕ → ℕ → ℕ → List ℕ
starts_from x1 x2 interval zero = []
starts_from x1 x2 interval (suc count) = across intervals x1 x2 interval ∷ starts_from x1 x2 (interval + 1) count

abbrev pub starts_of : ℕ → ℕ → List ℕ
starts_of x1 x2 = starts_from x1 x2 0 17

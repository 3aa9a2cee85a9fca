-- Whole numbers in fixed point. What does not come out even is rounded down, and what lies out of range is brought to
-- the nearest number within.
use Rattle.std.specs.Prelude.{ℕ, min, ℤ, pos, negsuc, neg_ℤ}
use Rattle.std.specs.Int.{int_div_euclid, int_min, int_max}

-- z divided by n, rounded down: -1 divided by 4 is -1
abbrev pub floor_div : ℤ → ℕ → ℤ
floor_div z n = int_div_euclid z (pos n)

-- the number from 0 to most that is nearest to z
abbrev pub clamp_to : ℕ → ℤ → ℕ
clamp_to most (pos n) = min n most
clamp_to most (negsuc n) = 0

-- the number from -most to most that is nearest to z
abbrev pub clamp_size : ℕ → ℤ → ℤ
clamp_size most z = int_max (neg_ℤ (pos most)) (int_min z (pos most))

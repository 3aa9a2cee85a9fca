-- Blends of single numbers. At a progress of 0 a blend is the number that it comes from, and at ONE the number that it
-- goes to. An easing may overshoot: below 0 and above ONE a blend goes on past its ends, as far as its range allows.
use Rattle.std.specs.Prelude.{ℕ, ◌≤◌, ℤ, pos, negsuc, ◌+ℤ◌, ◌-ℤ◌, ◌*ℤ◌, unsigned_abs, Bool, nat_le, if◌then◌else◌, Option, Some, None}
use Rattle.anim_names.specs.declared.progress.TheConstants.{ONE}
use Rattle.value_blend.specs.declared.TheConstants.{LARGEST_NUMBER, FULL_OPACITY}
use Rattle.value_blend.specs.Fixed.{floor_div, clamp_to, clamp_size}

-- the number that lies at a progress of the way from one number to another
abbrev pub part_way : ℤ → ℤ → ℤ → ℤ
part_way from to progress = from +ℤ floor_div ((to -ℤ from) *ℤ progress) ONE

-- what may be a number of an operation
abbrev pub IsNumber : ℤ → Type 0
IsNumber z = unsigned_abs z ≤ LARGEST_NUMBER

-- the test of such a number
abbrev pub is_number : ℤ → Bool
is_number z = nat_le (unsigned_abs z) LARGEST_NUMBER

-- the blend of two numbers of operations
abbrev pub blend_number : ℤ → ℤ → ℤ → ℤ
blend_number from to progress = clamp_size LARGEST_NUMBER (part_way from to progress)

-- what may be an opacity
abbrev pub IsOpacity : ℕ → Type 0
IsOpacity n = n ≤ FULL_OPACITY

-- the opacity of this many millionths, where they may be one
abbrev pub opacity_of : ℤ → Option ℕ
opacity_of (pos n) = if nat_le n FULL_OPACITY then Some n else None
opacity_of (negsuc n) = None

-- the blend of two opacities
abbrev pub blend_opacity : ℕ → ℕ → ℤ → ℕ
blend_opacity from to progress = clamp_to FULL_OPACITY (part_way (pos from) (pos to) progress)

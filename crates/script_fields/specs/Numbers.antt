-- The one spelling of a number: its digits, with no zero before them, behind a minus where it is negative.
use Rattle.std.specs.Prelude.{ℕ, zero, suc, ◌+◌, ◌-◌, ◌*◌, ◌^◌, ℤ, pos, negsuc, List, [], ◌∷◌, Option, Some, None, ◌==◌, ◌&&◌, nat_le, int_le, if◌then◌else◌, option_and_then, option_map}
use Rattle.std.specs.Char.{is_ascii_digit}

-- the number that these digits make behind those of n
abbrev pub read_on : ℕ → List ℕ → Option ℕ
read_on n [] = Some n
read_on n (d ∷ ds) = if is_ascii_digit d then read_on (10 * n + (d - 48)) ds else None

-- the number that these bytes spell without a sign; there is no empty number, and 0 stands first only alone
abbrev pub natural_of : List ℕ → Option ℕ
natural_of [] = None
natural_of (d ∷ []) = read_on 0 (d ∷ [])
natural_of (d ∷ e ∷ ds) = if d == 48 then None else read_on 0 (d ∷ e ∷ ds)

-- less than nothing by n, which is not 0: there is no minus zero
abbrev pub negative : ℕ → Option ℤ
negative zero = None
negative (suc n) = Some (negsuc n)

-- the number that these bytes spell, behind a minus (byte 45) where it is negative
abbrev pub integer_of : List ℕ → Option ℤ
integer_of [] = None
integer_of (b ∷ bs) = if b == 45 then option_and_then negative (natural_of bs) else option_map pos (natural_of (b ∷ bs))

-- the number, where it is from low to high
abbrev pub natural_kept : ℕ → ℕ → ℕ → Option ℕ
natural_kept low high n = if nat_le low n && nat_le n high then Some n else None

abbrev pub integer_kept : ℤ → ℤ → ℤ → Option ℤ
integer_kept low high z = if int_le low z && int_le z high then Some z else None

-- the number from low to high that these bytes spell
abbrev pub natural_within : ℕ → ℕ → List ℕ → Option ℕ
natural_within low high bytes = option_and_then (natural_kept low high) (natural_of bytes)

abbrev pub integer_within : ℤ → ℤ → List ℕ → Option ℤ
integer_within low high bytes = option_and_then (integer_kept low high) (integer_of bytes)

-- the number of 64 bits that these bytes spell
abbrev pub number_said : List ℕ → Option ℤ
number_said field = integer_within (negsuc (2 ^ 63 - 1)) (pos (2 ^ 63 - 1)) field

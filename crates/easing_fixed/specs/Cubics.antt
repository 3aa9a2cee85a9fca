-- A cubic Bézier curve from (0, 0) to (1, 1): its parts and their ranges, its place at a progress, and its value.
--
-- Control numbers are in millionths. A parameter s goes along the curve in n steps, from 0 to n; an easing takes ONE
-- of them. How far across and how high the curve is at s is in millionths of n * n * n.
use Rattle.std.specs.Prelude.{◌≡◌, ℕ, zero, suc, ◌+◌, ◌-◌, ◌*◌, ◌^◌, ◌≤◌, ℤ, pos, ◌+ℤ◌, ◌*ℤ◌, int_le, unsigned_abs, Bool, not, ◌&&◌, nat_le, if◌then◌else◌, Option, Some, None}
use Rattle.std.specs.Int.{int_div_euclid}
use Rattle.anim_names.specs.declared.progress.TheConstants.{ONE}
use Rattle.easing_fixed.specs.declared.TheConstants.{END, LARGEST_Y}
use Rattle.easing_fixed.specs.declared.fault.EasingFault.{EasingFault}
use Rattle.easing_fixed.specs.declared.fault.EasingFault.TheVariants.{XOutOfRange, YOutOfRange}

-- ---- the parts: the control points (x1, y1) and (x2, y2)

pub record CubicParts : Type 0 where
  pub x1 : ℤ
  pub y1 : ℤ
  pub x2 : ℤ
  pub y2 : ℤ

abbrev pub cubic_parts : ℤ → ℤ → ℤ → ℤ → CubicParts
cubic_parts x1 y1 x2 y2 = record { x1 = x1; y1 = y1; x2 = x2; y2 = y2 }

abbrev pub is_x : ℤ → Bool
is_x x = int_le (pos 0) x && int_le x (pos END)

abbrev pub is_y : ℤ → Bool
is_y y = nat_le (unsigned_abs y) LARGEST_Y

-- why the parts make no cubic
abbrev pub cubic_refusal : CubicParts → Option EasingFault
cubic_refusal c =
    if not (is_x c.x1 && is_x c.x2) then Some XOutOfRange else
    if not (is_y c.y1 && is_y c.y2) then Some YOutOfRange else
    None

-- what may be the parts of a cubic
abbrev pub IsCubic : CubicParts → Type 0
IsCubic c = cubic_refusal c ≡ None

-- ---- the curve

-- how much the two control points and the end of the curve weigh at the parameter s of n
abbrev pub first_weight : ℕ → ℕ → ℕ
first_weight n s = 3 * (n - s) * (n - s) * s

abbrev pub second_weight : ℕ → ℕ → ℕ
second_weight n s = 3 * (n - s) * s * s

abbrev pub end_weight : ℕ → ℕ
end_weight s = s * s * s

-- how far across the curve is
abbrev pub across : ℕ → ℕ → ℕ → ℕ → ℕ
across n x1 x2 s = first_weight n s * x1 + second_weight n s * x2 + end_weight s * END

-- how high the curve is
abbrev pub height : ℕ → ℤ → ℤ → ℕ → ℤ
height n y1 y2 s = pos (first_weight n s) *ℤ y1 +ℤ pos (second_weight n s) *ℤ y2 +ℤ pos (end_weight s * END)

-- ---- the place at a progress

-- what 1 of a progress or a value is, in the unit of `across ONE` and `height ONE`
abbrev pub unit : ℕ
unit = ONE * ONE * END

abbrev pub bound : ℕ → ℕ
bound p = p * unit

-- s is the place: the greatest parameter at which the curve is no farther across than p
pub record IsPlace (x1 x2 p s : ℕ) : Type 0 where
  pub within : s ≤ ONE
  pub not_past : across ONE x1 x2 s ≤ bound p
  pub greatest : (r : ℕ) → r ≤ ONE → across ONE x1 x2 r ≤ bound p → r ≤ s

-- the test of a place: s is a parameter, and the curve is no farther across there than p
abbrev pub is_not_past : ℕ → ℕ → ℕ → ℕ → Bool
is_not_past x1 x2 p s = nat_le s ONE && nat_le (across ONE x1 x2 s) (bound p)

-- Bit by bit from the highest down, a bit is set where the number still passes the test.
abbrev pub greatest_from : (ℕ → Bool) → ℕ → ℕ → ℕ
greatest_from test zero number = number
greatest_from test (suc bits) number =
    greatest_from test bits (if test (number + 2 ^ bits) then number + 2 ^ bits else number)

-- the place, computed: it is the one number that is the place, by a law of this crate
unfoldable pub place : ℕ → ℕ → ℕ → ℕ
place x1 x2 p = greatest_from (is_not_past x1 x2 p) 21 0

-- ---- the value

unfoldable pub cubic_value : CubicParts → ℕ → ℤ
cubic_value c p =
    int_div_euclid (height ONE c.y1 c.y2 (place (unsigned_abs c.x1) (unsigned_abs c.x2) p)) (pos unit)

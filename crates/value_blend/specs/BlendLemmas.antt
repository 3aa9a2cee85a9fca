-- What a blend is at the beginning and at the end of the way, and that it stays in range.
use Rattle.std.proofs.Common.{◌≡◌, ℕ, suc, ◌+◌, ◌*◌, ℤ, pos, negsuc, ◌-ℤ◌, ◌*ℤ◌, refl, ap, ◌∙◌, arith}
use Rattle.std.proofs.Math.IntN.{+ℤ_idr, +ℤ_comm, -ℤ-+ℤ_cancel}
use Rattle.std.proofs.lemmas.Bool.Decides.{nat_tests}
use Rattle.anim_names.specs.declared.progress.TheConstants.{ONE}
use Rattle.value_blend.specs.declared.TheConstants.{LARGEST_NUMBER, FULL_OPACITY}
use Rattle.value_blend.specs.Fixed.{floor_div, clamp_to, clamp_size}
use Rattle.value_blend.specs.Blends.{part_way, IsNumber, IsOpacity, blend_number, blend_opacity}

floor_div-none : (d : ℤ) → floor_div (d *ℤ pos 0) ONE ≡ pos 0
floor_div-none (pos a) = ap pos (omega arith)
floor_div-none (negsuc a) =
    let none : suc a * 0 ≡ 0 = omega arith in
    rw none refl

floor_div-all : (d : ℤ) → floor_div (d *ℤ pos ONE) ONE ≡ d
floor_div-all (pos a) = ap pos (omega arith)
floor_div-all (negsuc a) =
    let whole : suc a * 1048576 ≡ suc (a * 1048576 + 1048575) = omega arith in
    rw whole (ap negsuc (omega arith))

pub part_way-begin : (from to : ℤ) → part_way from to (pos 0) ≡ from
part_way-begin from to = rw (floor_div-none (to -ℤ from)) (+ℤ_idr from)

pub part_way-end : (from to : ℤ) → part_way from to (pos ONE) ≡ to
part_way-end from to = rw (floor_div-all (to -ℤ from)) (+ℤ_comm from (to -ℤ from) ∙ -ℤ-+ℤ_cancel to from)

pub clamp_size-within : (z : ℤ) → IsNumber z → clamp_size LARGEST_NUMBER z ≡ z
clamp_size-within (pos a) h = grind (arith, nat_tests)
clamp_size-within (negsuc a) h = grind (arith, nat_tests)

pub clamp_to-within : (n : ℕ) → IsOpacity n → clamp_to FULL_OPACITY (pos n) ≡ n
clamp_to-within n h = omega arith

pub IsNumber-clamp_size : (z : ℤ) → IsNumber (clamp_size LARGEST_NUMBER z)
IsNumber-clamp_size (pos a) = grind (arith, nat_tests)
IsNumber-clamp_size (negsuc a) = grind (arith, nat_tests)

pub IsNumber-blend_number : (from to progress : ℤ) → IsNumber (blend_number from to progress)
IsNumber-blend_number from to progress = IsNumber-clamp_size (part_way from to progress)

pub blend_number-begin : (from to : ℤ) → IsNumber from → blend_number from to (pos 0) ≡ from
blend_number-begin from to f = rw (part_way-begin from to) (clamp_size-within from f)

pub blend_number-end : (from to : ℤ) → IsNumber to → blend_number from to (pos ONE) ≡ to
blend_number-end from to t = rw (part_way-end from to) (clamp_size-within to t)

pub blend_opacity-begin : (from to : ℕ) → IsOpacity from → IsOpacity to → blend_opacity from to (pos 0) ≡ from
blend_opacity-begin from to f t = rw (part_way-begin (pos from) (pos to)) (clamp_to-within from f)

pub blend_opacity-end : (from to : ℕ) → IsOpacity from → IsOpacity to → blend_opacity from to (pos ONE) ≡ to
blend_opacity-end from to f t = rw (part_way-end (pos from) (pos to)) (clamp_to-within to t)

-- The curves of the worked rows.
use Rattle.std.specs.Prelude.{pos, negsuc}
use Rattle.easing_fixed.specs.Cubics.{CubicParts, cubic_parts}

-- steepest in the middle, where it stands upright
abbrev pub upright : CubicParts
upright = cubic_parts (pos 1000000) (pos 0) (pos 0) (pos 1000000)

-- the keyword ease-out
abbrev pub ease_out : CubicParts
ease_out = cubic_parts (pos 0) (pos 0) (pos 580000) (pos 1000000)

-- far below 0 first
abbrev pub undershooting : CubicParts
undershooting = cubic_parts (pos 0) (negsuc 9999999) (pos 1000000) (pos 0)

-- an x and a y that are out of range; the x is judged first
abbrev pub too_far : CubicParts
too_far = cubic_parts (pos 1000001) (pos 0) (pos 0) (negsuc 10000000)

-- a y that is out of range
abbrev pub too_deep : CubicParts
too_deep = cubic_parts (pos 0) (pos 0) (pos 0) (negsuc 10000000)

-- Single operations of a transform: which two can be blended, what does nothing, and the blend of two.
use Rattle.std.specs.Prelude.{◌≡◌, Bool, true, false, ◌&&◌, ℤ, pos}
use Rattle.std.specs.Ordering.{int_eq}
use Rattle.value_blend.specs.Blends.{blend_number, IsNumber, is_number}
use Rattle.transform_ops.specs.declared.TheConstants.{SAME_SIZE}
use Rattle.transform_ops.specs.declared.op.TransformOp.{TransformOp}
use Rattle.transform_ops.specs.declared.op.TransformOp.TheVariants.{Translate, Scale, Rotate, Skew}

-- what may be an operation: each number of it is in range
abbrev pub IsOperation : TransformOp → Type 0
IsOperation (Translate x y z) = IsNumber x × IsNumber y × IsNumber z
IsOperation (Scale x y z) = IsNumber x × IsNumber y × IsNumber z
IsOperation (Rotate x y z angle) = IsNumber x × IsNumber y × IsNumber z × IsNumber angle
IsOperation (Skew x y) = IsNumber x × IsNumber y

-- the test of such an operation
abbrev pub is_operation : TransformOp → Bool
is_operation (Translate x y z) = is_number x && is_number y && is_number z
is_operation (Scale x y z) = is_number x && is_number y && is_number z
is_operation (Rotate x y z angle) = is_number x && is_number y && is_number z && is_number angle
is_operation (Skew x y) = is_number x && is_number y

-- Two operations match where they are of one kind and, for a rotate, turn about one axis.
abbrev pub matches : TransformOp → TransformOp → Bool
matches (Translate x y z) (Translate u v w) = true
matches (Scale x y z) (Scale u v w) = true
matches (Rotate x y z angle) (Rotate u v w other) = int_eq x u && int_eq y v && int_eq z w
matches (Skew x y) (Skew u v) = true
matches _ _ = false

-- the operation of the same kind, and about the same axis, that does nothing
abbrev pub neutral_of : TransformOp → TransformOp
neutral_of (Translate x y z) = Translate (pos 0) (pos 0) (pos 0)
neutral_of (Scale x y z) = Scale SAME_SIZE SAME_SIZE SAME_SIZE
neutral_of (Rotate x y z angle) = Rotate x y z (pos 0)
neutral_of (Skew x y) = Skew (pos 0) (pos 0)

abbrev pub IsNeutral : TransformOp → Type 0
IsNeutral op = op ≡ neutral_of op

-- The blend of two operations that match, number by number; a rotate keeps its axis. Others are never blended.
abbrev pub blend_operations : TransformOp → TransformOp → ℤ → TransformOp
blend_operations (Translate x y z) (Translate u v w) progress =
    Translate (blend_number x u progress) (blend_number y v progress) (blend_number z w progress)
blend_operations (Scale x y z) (Scale u v w) progress =
    Scale (blend_number x u progress) (blend_number y v progress) (blend_number z w progress)
blend_operations (Rotate x y z angle) (Rotate u v w other) progress =
    Rotate x y z (blend_number angle other progress)
blend_operations (Skew x y) (Skew u v) progress =
    Skew (blend_number x u progress) (blend_number y v progress)
blend_operations from _ progress = from

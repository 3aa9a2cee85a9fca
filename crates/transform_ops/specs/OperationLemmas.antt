-- What is true of single operations: a blend of two that match begins with the one and ends with the other.
use Rattle.std.proofs.Common.{◌≡◌, true, ◌&&◌, ℤ, pos, refl, arith}
use Rattle.std.proofs.lemmas.Bool.Decides.{Decides-int_eq}
use Rattle.std.specs.Ordering.{int_eq}
use Rattle.anim_names.specs.declared.progress.TheConstants.{ONE}
use Rattle.value_blend.specs.Blends.{IsNumber}
use Rattle.value_blend.specs.BlendLemmas.{IsNumber-blend_number, blend_number-begin, blend_number-end}
use Rattle.transform_ops.specs.declared.TheConstants.{SAME_SIZE}
use Rattle.transform_ops.specs.declared.op.TransformOp.{TransformOp}
use Rattle.transform_ops.specs.declared.op.TransformOp.TheVariants.{Translate, Scale, Rotate, Skew}
use Rattle.transform_ops.specs.Operations.{IsOperation, IsNeutral, matches, neutral_of, blend_operations}

-- ---- matching

int_eq-same : (x : ℤ) → int_eq x x ≡ true
int_eq-same x = (Decides-int_eq x x).1 refl

same_axis : (x y z u v w : ℤ) → (int_eq x u && int_eq y v && int_eq z w) ≡ true → (x ≡ u) × (y ≡ v) × (z ≡ w)
same_axis x y z u v w m =
    let a = Decides-int_eq x u in
    let b = Decides-int_eq y v in
    let c = Decides-int_eq z w in
    grind arith

pub matches-neutral_left : (a : TransformOp) → matches (neutral_of a) a ≡ true
matches-neutral_left (Translate x y z) = refl
matches-neutral_left (Scale x y z) = refl
matches-neutral_left (Rotate x y z angle) = rw (int_eq-same x, int_eq-same y, int_eq-same z) refl
matches-neutral_left (Skew x y) = refl

-- ---- neutral operations

pub IsOperation-neutral : (a : TransformOp) → IsOperation a → IsOperation (neutral_of a)
IsOperation-neutral (Translate x y z) h = (omega arith, omega arith, omega arith)
IsOperation-neutral (Scale x y z) h = (omega arith, omega arith, omega arith)
IsOperation-neutral (Rotate x y z angle) h = (h.0, h.1, h.2, omega arith)
IsOperation-neutral (Skew x y) h = (omega arith, omega arith)

pub IsNeutral-neutral : (a : TransformOp) → IsNeutral (neutral_of a)
IsNeutral-neutral (Translate x y z) = refl
IsNeutral-neutral (Scale x y z) = refl
IsNeutral-neutral (Rotate x y z angle) = refl
IsNeutral-neutral (Skew x y) = refl

-- ---- blends

pub IsOperation-blend_operations : (a b : TransformOp) (progress : ℤ) → IsOperation a → IsOperation (blend_operations a b progress)
IsOperation-blend_operations (Translate x y z) (Translate u v w) q h =
    (IsNumber-blend_number x u q, IsNumber-blend_number y v q, IsNumber-blend_number z w q)
IsOperation-blend_operations (Scale x y z) (Scale u v w) q h =
    (IsNumber-blend_number x u q, IsNumber-blend_number y v q, IsNumber-blend_number z w q)
IsOperation-blend_operations (Rotate x y z angle) (Rotate u v w other) q h =
    (h.0, h.1, h.2, IsNumber-blend_number angle other q)
IsOperation-blend_operations (Skew x y) (Skew u v) q h =
    (IsNumber-blend_number x u q, IsNumber-blend_number y v q)
IsOperation-blend_operations a b q h = h

pub blend_operations-begin : (a b : TransformOp) → IsOperation a → blend_operations a b (pos 0) ≡ a
blend_operations-begin (Translate x y z) (Translate u v w) h =
    rw (blend_number-begin x u h.0, blend_number-begin y v h.1, blend_number-begin z w h.2) refl
blend_operations-begin (Scale x y z) (Scale u v w) h =
    rw (blend_number-begin x u h.0, blend_number-begin y v h.1, blend_number-begin z w h.2) refl
blend_operations-begin (Rotate x y z angle) (Rotate u v w other) h = rw (blend_number-begin angle other h.3) refl
blend_operations-begin (Skew x y) (Skew u v) h = rw (blend_number-begin x u h.0, blend_number-begin y v h.1) refl
blend_operations-begin a b h = refl

pub blend_operations-end : (a b : TransformOp) → IsOperation b → matches a b ≡ true → blend_operations a b (pos ONE) ≡ b
blend_operations-end (Translate x y z) (Translate u v w) h m =
    rw (blend_number-end x u h.0, blend_number-end y v h.1, blend_number-end z w h.2) refl
blend_operations-end (Scale x y z) (Scale u v w) h m =
    rw (blend_number-end x u h.0, blend_number-end y v h.1, blend_number-end z w h.2) refl
blend_operations-end (Rotate x y z angle) (Rotate u v w other) h m =
    let same = same_axis x y z u v w m in
    rw (blend_number-end angle other h.3, same.0, same.1, same.2) refl
blend_operations-end (Skew x y) (Skew u v) h m = rw (blend_number-end x u h.0, blend_number-end y v h.1) refl
blend_operations-end a b h m = absurd (cc)

-- ---- blends with the neutral operation

zero_is_number : IsNumber (pos 0)
zero_is_number = omega arith

same_size_is_number : IsNumber SAME_SIZE
same_size_is_number = omega arith

pub blend_operations-neutral_begin : (b : TransformOp) → blend_operations (neutral_of b) b (pos 0) ≡ neutral_of b
blend_operations-neutral_begin (Translate u v w) =
    rw (blend_number-begin (pos 0) u zero_is_number, blend_number-begin (pos 0) v zero_is_number, blend_number-begin (pos 0) w zero_is_number) refl
blend_operations-neutral_begin (Scale u v w) =
    rw (blend_number-begin SAME_SIZE u same_size_is_number, blend_number-begin SAME_SIZE v same_size_is_number, blend_number-begin SAME_SIZE w same_size_is_number) refl
blend_operations-neutral_begin (Rotate u v w other) = rw (blend_number-begin (pos 0) other zero_is_number) refl
blend_operations-neutral_begin (Skew u v) =
    rw (blend_number-begin (pos 0) u zero_is_number, blend_number-begin (pos 0) v zero_is_number) refl

pub blend_operations-neutral_end : (a : TransformOp) → blend_operations a (neutral_of a) (pos ONE) ≡ neutral_of a
blend_operations-neutral_end (Translate x y z) =
    rw (blend_number-end x (pos 0) zero_is_number, blend_number-end y (pos 0) zero_is_number, blend_number-end z (pos 0) zero_is_number) refl
blend_operations-neutral_end (Scale x y z) =
    rw (blend_number-end x SAME_SIZE same_size_is_number, blend_number-end y SAME_SIZE same_size_is_number, blend_number-end z SAME_SIZE same_size_is_number) refl
blend_operations-neutral_end (Rotate x y z angle) = rw (blend_number-end angle (pos 0) zero_is_number) refl
blend_operations-neutral_end (Skew x y) =
    rw (blend_number-end x (pos 0) zero_is_number, blend_number-end y (pos 0) zero_is_number) refl

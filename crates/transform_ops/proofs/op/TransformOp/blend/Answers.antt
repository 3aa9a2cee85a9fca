-- The numbers of a blend are in range: each is blended so, or it is one of the axis that is kept.
use Rattle.std.proofs.Common.{ℤ, to_z, of_z, w64, arith}
use Rattle.std.proofs.lemmas.Int.{ints}
use Rattle.value_blend.specs.Blends.{IsNumber}
use Rattle.transform_ops.proofs.op.TransformOp.blend.Goals as goal

kept : (z : ℤ) → IsNumber z → IsNumber (to_z w64 (of_z w64 z))
kept z within = omega (arith, ints)

pub returns-in-Translate-Translate-clause-within : goal.returns-in-Translate-Translate-clause-within
returns-in-Translate-Translate-clause-within c = (
  kept c.blend_number.result c.blend_number.ensures.within,
  kept c.blend_number-in-Translate-Translate.result c.blend_number-in-Translate-Translate.ensures.within,
  kept c.blend_number-in-Translate-Translate-2.result c.blend_number-in-Translate-Translate-2.ensures.within,
)

pub returns-in-Scale-Scale-clause-within : goal.returns-in-Scale-Scale-clause-within
returns-in-Scale-Scale-clause-within c = (
  kept c.blend_number-in-Scale-Scale.result c.blend_number-in-Scale-Scale.ensures.within,
  kept c.blend_number-in-Scale-Scale-2.result c.blend_number-in-Scale-Scale-2.ensures.within,
  kept c.blend_number-in-Scale-Scale-3.result c.blend_number-in-Scale-Scale-3.ensures.within,
)

pub returns-in-Rotate-Rotate-clause-within : goal.returns-in-Rotate-Rotate-clause-within
returns-in-Rotate-Rotate-clause-within c =
    let axis = rw c.in-Rotate-Rotate.is-0 at c.requires.from_within in (
      kept c.in-Rotate-Rotate.x axis.0,
      kept c.in-Rotate-Rotate.y axis.1,
      kept c.in-Rotate-Rotate.z axis.2,
      kept c.blend_number-in-Rotate-Rotate.result c.blend_number-in-Rotate-Rotate.ensures.within,
    )

pub returns-in-Skew-Skew-clause-within : goal.returns-in-Skew-Skew-clause-within
returns-in-Skew-Skew-clause-within c = (
  kept c.blend_number-in-Skew-Skew.result c.blend_number-in-Skew-Skew.ensures.within,
  kept c.blend_number-in-Skew-Skew-2.result c.blend_number-in-Skew-Skew-2.ensures.within,
)

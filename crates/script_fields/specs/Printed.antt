-- What the fields of a script and of a report are printed as: the one spelling of each value.
use Rattle.std.specs.Prelude.{ℕ, ℤ, List, [], ◌∷◌, ◌++◌, map, Option, Some, None, codes}
use Rattle.std.specs.Fmt.{decimal, signed_decimal}
use Rattle.anim_names.specs.declared.lane.Lane.{Lane}
use Rattle.anim_names.specs.declared.lane.Lane.TheVariants.{Main, Compositor}
use Rattle.anim_names.specs.declared.property.Property.{Property}
use Rattle.anim_names.specs.declared.property.Property.TheVariants.{Opacity, Transform}
use Rattle.anim_delegate.specs.declared.policy.Policy.{Policy}
use Rattle.anim_delegate.specs.declared.policy.Policy.TheVariants.{Auto, FinishedOnly, Manual}
use Rattle.micro_time.specs.declared.direction.Direction.{Direction}
use Rattle.micro_time.specs.declared.direction.Direction.TheVariants.{Normal, Reverse, Alternate, AlternateReverse}
use Rattle.micro_time.specs.declared.fill.Fill.{Fill}
use Rattle.micro_time.specs.declared.fill.Fill.TheVariants.{Neither, Forwards, Backwards, Both}
use Rattle.micro_time.specs.declared.iterations.Iterations.{Iterations}
use Rattle.micro_time.specs.declared.iterations.Iterations.TheVariants.{Finite, Infinite}
use Rattle.easing_fixed.specs.declared.easing.Easing.{Easing}
use Rattle.easing_fixed.specs.declared.easing.Easing.TheVariants.{Linear, Steps, Cubic}
use Rattle.easing_fixed.specs.declared.position.StepPosition.{StepPosition}
use Rattle.easing_fixed.specs.declared.position.StepPosition.TheVariants.{JumpStart, JumpEnd, JumpNone, JumpBoth}
use Rattle.transform_ops.specs.declared.op.TransformOp.{TransformOp}
use Rattle.transform_ops.specs.declared.op.TransformOp.TheVariants.{Translate, Scale, Rotate, Skew}
use Rattle.script_fields.specs.Fields.{joined}

-- ---- keywords

abbrev pub property_text : Property → List ℕ
property_text Opacity = codes "opacity"
property_text Transform = codes "transform"

abbrev pub direction_text : Direction → List ℕ
direction_text Normal = codes "normal"
direction_text Reverse = codes "reverse"
direction_text Alternate = codes "alternate"
direction_text AlternateReverse = codes "alternate-reverse"

abbrev pub fill_text : Fill → List ℕ
fill_text Neither = codes "none"
fill_text Forwards = codes "forwards"
fill_text Backwards = codes "backwards"
fill_text Both = codes "both"

abbrev pub policy_text : Policy → List ℕ
policy_text Auto = codes "auto"
policy_text FinishedOnly = codes "finished"
policy_text Manual = codes "manual"

abbrev pub position_text : StepPosition → List ℕ
position_text JumpStart = codes "jump-start"
position_text JumpEnd = codes "jump-end"
position_text JumpNone = codes "jump-none"
position_text JumpBoth = codes "jump-both"

abbrev pub letter : Lane → ℕ
letter Main = 77
letter Compositor = 67

-- the letters of a word, or a dash where it has none
abbrev pub word_text : List Lane → List ℕ
word_text [] = codes "-"
word_text (lane ∷ lanes) = letter lane ∷ map letter lanes

-- ---- numbers

-- a given start, or a dash
abbrev pub start_text : Option ℕ → List ℕ
start_text None = codes "-"
start_text (Some time) = decimal time

abbrev pub iterations_text : Iterations → List ℕ
iterations_text (Finite count) = decimal count
iterations_text Infinite = codes "infinite"

-- a number behind a colon
abbrev pub number_text : ℤ → List ℕ
number_text number = codes ":" ++ signed_decimal number

-- ---- easings

-- three numbers
unfoldable pub axes_text : ℤ → ℤ → ℤ → List ℕ
axes_text x y z = number_text x ++ number_text y ++ number_text z

-- a cubic by the numbers of its control points
unfoldable pub cubic_text : ℤ → ℤ → ℤ → ℤ → List ℕ
cubic_text x1 y1 x2 y2 = codes "cubic" ++ axes_text x1 y1 x2 ++ number_text y2

-- a keyword of CSS is printed as what it stands for
unfoldable pub easing_text : Easing → List ℕ
easing_text Linear = codes "linear"
easing_text (Steps s) = codes "steps:" ++ decimal s.count ++ codes ":" ++ position_text s.position
easing_text (Cubic c) = cubic_text c.x1 c.y1 c.x2 c.y2

-- ---- operations

-- a turn about an axis by an angle
unfoldable pub turn_text : ℤ → ℤ → ℤ → ℤ → List ℕ
turn_text x y z angle = codes "rotate" ++ axes_text x y z ++ number_text angle

-- an operation: what it does, and its numbers
unfoldable pub operation_text : TransformOp → List ℕ
operation_text (Translate x y z) = codes "translate" ++ axes_text x y z
operation_text (Scale x y z) = codes "scale" ++ axes_text x y z
operation_text (Rotate x y z angle) = turn_text x y z angle
operation_text (Skew x y) = codes "skew" ++ number_text x ++ number_text y

-- the fields of a list: one for each operation, or a word where there are none
abbrev pub list_fields : List TransformOp → List (List ℕ)
list_fields [] = codes "none" ∷ []
list_fields (operation ∷ operations) = operation_text operation ∷ map operation_text operations

-- an operation behind another one
abbrev pub further_text : TransformOp → List ℕ
further_text operation = 32 ∷ operation_text operation

-- the fields of a list as one text
abbrev pub list_text : List TransformOp → List ℕ
list_text operations = joined (list_fields operations)

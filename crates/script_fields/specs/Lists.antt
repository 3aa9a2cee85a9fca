-- What the list of a transform is spelled as: the field `none`, or a field for each of 1 to 8 operations.
use Rattle.std.specs.Prelude.{ℕ, ℤ, Bool, false, ◌&&◌, ◌||◌, nat_le, List, [], ◌∷◌, length, Option, Some, None, Result, Ok, Err, ok_or, option_and_then, option_map, if◌then◌else◌, codes}
use Rattle.std.specs.Str.{bytes_eq}
use Rattle.std.specs.Option.{option_or}
use Rattle.transform_ops.specs.declared.TheConstants.{MOST_OPERATIONS}
use Rattle.transform_ops.specs.declared.op.TransformOp.{TransformOp}
use Rattle.transform_ops.specs.declared.op.TransformOp.TheVariants.{Translate, Scale, Rotate, Skew}
use Rattle.transform_ops.specs.Operations.{is_operation}
use Rattle.script_fields.specs.declared.fault.FieldFault.{FieldFault}
use Rattle.script_fields.specs.declared.fault.FieldFault.TheVariants.{BadForm, BadNumber}
use Rattle.script_fields.specs.Fields.{parts, all_read}
use Rattle.script_fields.specs.Numbers.{number_said}

-- ---- an operation by its parts

-- the name of an operation, and as many further parts as it has numbers
abbrev pub has_form : List (List ℕ) → Bool
has_form (name ∷ x ∷ y ∷ []) = bytes_eq name (codes "skew")
has_form (name ∷ x ∷ y ∷ z ∷ []) = bytes_eq name (codes "translate") || bytes_eq name (codes "scale")
has_form (name ∷ x ∷ y ∷ z ∷ angle ∷ []) = bytes_eq name (codes "rotate")
has_form other = false

-- two numbers, and three
abbrev pub pair_said : List ℕ → List ℕ → Option (ℤ × ℤ)
pair_said x y = option_and_then (λ a. option_map (λ b. (a, b)) (number_said y)) (number_said x)

abbrev pub triple_said : List ℕ → List ℕ → List ℕ → Option (ℤ × (ℤ × ℤ))
triple_said x y z = option_and_then (λ a. option_map (λ p. (a, p)) (pair_said y z)) (number_said x)

-- the parts of `translate:X:Y:Z`
abbrev pub translate_said : List (List ℕ) → Option TransformOp
translate_said (name ∷ x ∷ y ∷ z ∷ []) =
    if bytes_eq name (codes "translate") then option_map (λ p. Translate p.0 p.1.0 p.1.1) (triple_said x y z) else None
translate_said other = None

-- the parts of `scale:X:Y:Z`
abbrev pub scale_said : List (List ℕ) → Option TransformOp
scale_said (name ∷ x ∷ y ∷ z ∷ []) =
    if bytes_eq name (codes "scale") then option_map (λ p. Scale p.0 p.1.0 p.1.1) (triple_said x y z) else None
scale_said other = None

abbrev pub rotate_by : ℤ × (ℤ × ℤ) → ℤ → TransformOp
rotate_by axis angle = Rotate axis.0 axis.1.0 axis.1.1 angle

-- the parts of `rotate:X:Y:Z:ANGLE`
abbrev pub rotate_said : List (List ℕ) → Option TransformOp
rotate_said (name ∷ x ∷ y ∷ z ∷ angle ∷ []) =
    if bytes_eq name (codes "rotate") then
    option_and_then (λ axis. option_map (rotate_by axis) (number_said angle)) (triple_said x y z) else
    None
rotate_said other = None

-- the parts of `skew:X:Y`
abbrev pub skew_said : List (List ℕ) → Option TransformOp
skew_said (name ∷ x ∷ y ∷ []) =
    if bytes_eq name (codes "skew") then option_map (λ p. Skew p.0 p.1) (pair_said x y) else None
skew_said other = None

abbrev pub operation_of_parts : List (List ℕ) → Option TransformOp
operation_of_parts parts =
    option_or (translate_said parts) (option_or (scale_said parts) (option_or (rotate_said parts) (skew_said parts)))

-- ---- an operation, and a list

-- the operation, where each of its numbers is in range
abbrev pub operation_kept : TransformOp → Option TransformOp
operation_kept operation = if is_operation operation then Some operation else None

-- the operation with these parts: its name and the number of its parts are judged before its numbers
unfoldable pub operation_with : List (List ℕ) → Result TransformOp FieldFault
operation_with parts =
    if has_form parts then ok_or (option_and_then operation_kept (operation_of_parts parts)) BadNumber else Err BadForm

unfoldable pub operation_read : List ℕ → Result TransformOp FieldFault
operation_read field = operation_with (parts field)

-- the one field `none`
abbrev pub is_none_alone : List (List ℕ) → Bool
is_none_alone (field ∷ []) = bytes_eq field (codes "none")
is_none_alone other = false

-- a list has from one field to as many as there may be operations
abbrev pub is_list_long : List (List ℕ) → Bool
is_list_long fields = nat_le 1 (length fields) && nat_le (length fields) MOST_OPERATIONS

-- the list that fields of this number spell, field by field
unfoldable pub list_read : List (List ℕ) → Result (List TransformOp) FieldFault
list_read fields = if is_none_alone fields then Ok [] else all_read operation_read fields

-- Lists of operations: their blend, one by one from the front, and when two lists move alike.
use Rattle.std.specs.Prelude.{◌≡◌, ℕ, ◌+◌, ◌/◌, ◌≤◌, nat_lt, not, if◌then◌else◌, ℤ, pos, int_lt, List, [], ◌∷◌, map, length, Option, Some, None}
use Rattle.std.specs.List.{AllByRecursion, list_all}
use Rattle.anim_names.specs.declared.progress.TheConstants.{ONE}
use Rattle.transform_ops.specs.declared.TheConstants.{MOST_OPERATIONS}
use Rattle.transform_ops.specs.declared.fault.ListFault.{ListFault}
use Rattle.transform_ops.specs.declared.fault.ListFault.TheVariants.{TooMany, OutOfRange}
use Rattle.transform_ops.specs.declared.op.TransformOp.{TransformOp}
use Rattle.transform_ops.specs.Operations.{matches, neutral_of, blend_operations, IsNeutral, IsOperation, is_operation}

-- what may be the list of a transform
pub record IsList (ops : List TransformOp) : Type 0 where
  pub short : length ops ≤ MOST_OPERATIONS
  pub within : AllByRecursion IsOperation ops

-- why the operations make no list
abbrev pub list_refusal : List TransformOp → Option ListFault
list_refusal ops =
    if nat_lt MOST_OPERATIONS (length ops) then Some TooMany else
    if not (list_all is_operation ops) then Some OutOfRange else
    None

-- how many operations from the front match
abbrev pub match_len : List TransformOp → List TransformOp → ℕ
match_len [] to = 0
match_len (a ∷ from) [] = 0
match_len (a ∷ from) (b ∷ to) = if matches a b then 1 + match_len from to else 0

-- of two lists that can't be blended the nearer one: the first below half of the way, the second from there on
abbrev pub nearer_list : List TransformOp → List TransformOp → ℤ → List TransformOp
nearer_list from to progress = if int_lt progress (pos (ONE / 2)) then from else to

-- The blend of two lists. Operations that match blend one by one. Where one list has ended, each operation that the
-- other has left blends with its neutral one. From the first two on that do not match, all is of the nearer list.
abbrev pub blend_lists : List TransformOp → List TransformOp → ℤ → List TransformOp
blend_lists [] to progress = map (λ b. blend_operations (neutral_of b) b progress) to
blend_lists (a ∷ from) [] progress = map (λ a. blend_operations a (neutral_of a) progress) (a ∷ from)
blend_lists (a ∷ from) (b ∷ to) progress =
    if matches a b then blend_operations a b progress ∷ blend_lists from to progress else
    nearer_list (a ∷ from) (b ∷ to) progress

-- Two lists are alike where one begins with the other, and whatever it has besides is neutral.
abbrev pub IsAlike : List TransformOp → List TransformOp → Type 0
IsAlike [] ops = AllByRecursion IsNeutral ops
IsAlike (a ∷ xs) [] = AllByRecursion IsNeutral (a ∷ xs)
IsAlike (a ∷ xs) (b ∷ ys) = (a ≡ b) × IsAlike xs ys

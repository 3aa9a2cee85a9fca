-- The laws of blends of lists: at the beginning a blend is alike to the list that it comes from, at the end to the one
-- that it goes to.
use Rattle.std.proofs.Common.{◌≡◌, Bool, true, false, if◌then◌else◌, pos, List, [], ◌∷◌, map, refl}
use Rattle.std.specs.List.{AllByRecursion}
use Rattle.anim_names.specs.declared.progress.TheConstants.{ONE}
use Rattle.transform_ops.specs.declared.op.TransformOp.{TransformOp}
use Rattle.transform_ops.specs.Operations.{IsOperation, IsNeutral, matches, neutral_of, blend_operations}
use Rattle.transform_ops.specs.OperationLemmas.{blend_operations-begin, blend_operations-end, blend_operations-neutral_begin, blend_operations-neutral_end, matches-neutral_left, IsNeutral-neutral}
use Rattle.transform_ops.specs.Lists.{IsList, IsAlike, nearer_list, blend_lists}

pub IsAlike-same : (ops : List TransformOp) → IsAlike ops ops
IsAlike-same [] = tt
IsAlike-same (a ∷ ops) = (refl, IsAlike-same ops)

-- ---- where one list is empty

to_none_begins : (from : List TransformOp) → AllByRecursion IsOperation from → IsAlike (map (λ a. blend_operations a (neutral_of a) (pos 0)) from) from
to_none_begins [] f = tt
to_none_begins (a ∷ from) f = (blend_operations-begin a (neutral_of a) f.0, to_none_begins from f.1)

to_none_ends : (from : List TransformOp) → AllByRecursion IsNeutral (map (λ a. blend_operations a (neutral_of a) (pos ONE)) from)
to_none_ends [] = tt
to_none_ends (a ∷ from) = (rw (blend_operations-neutral_end a) (IsNeutral-neutral a), to_none_ends from)

from_none_begins : (to : List TransformOp) → AllByRecursion IsNeutral (map (λ b. blend_operations (neutral_of b) b (pos 0)) to)
from_none_begins [] = tt
from_none_begins (b ∷ to) = (rw (blend_operations-neutral_begin b) (IsNeutral-neutral b), from_none_begins to)

from_none_ends : (to : List TransformOp) → AllByRecursion IsOperation to → IsAlike (map (λ b. blend_operations (neutral_of b) b (pos ONE)) to) to
from_none_ends [] t = tt
from_none_ends (b ∷ to) t = (blend_operations-end (neutral_of b) b t.0 (matches-neutral_left b), from_none_ends to t.1)

-- ---- the laws

begins-at : (a b : TransformOp) (from to rest : List TransformOp) (m : Bool) → IsOperation a → IsAlike rest from →
    IsAlike (if m then blend_operations a b (pos 0) ∷ rest else nearer_list (a ∷ from) (b ∷ to) (pos 0)) (a ∷ from)
begins-at a b from to rest true h alike = (blend_operations-begin a b h, alike)
begins-at a b from to rest false h alike = IsAlike-same (a ∷ from)

begins : (from to : List TransformOp) → AllByRecursion IsOperation from → IsAlike (blend_lists from to (pos 0)) from
begins [] [] f = tt
begins [] (b ∷ to) f = from_none_begins (b ∷ to)
begins (a ∷ from) [] f = to_none_begins (a ∷ from) f
begins (a ∷ from) (b ∷ to) f =
    begins-at a b from to (blend_lists from to (pos 0)) (matches a b) f.0 (begins from to f.1)

ends-at : (a b : TransformOp) (from to rest : List TransformOp) (m : Bool) → matches a b ≡ m → IsOperation b → IsAlike rest to →
    IsAlike (if m then blend_operations a b (pos ONE) ∷ rest else nearer_list (a ∷ from) (b ∷ to) (pos ONE)) (b ∷ to)
ends-at a b from to rest true is h alike = (blend_operations-end a b h is, alike)
ends-at a b from to rest false is h alike = IsAlike-same (b ∷ to)

ends : (from to : List TransformOp) → AllByRecursion IsOperation to → IsAlike (blend_lists from to (pos ONE)) to
ends [] [] t = tt
ends [] (b ∷ to) t = from_none_ends (b ∷ to) t
ends (a ∷ from) [] t = to_none_ends (a ∷ from)
ends (a ∷ from) (b ∷ to) t =
    ends-at a b from to (blend_lists from to (pos ONE)) (matches a b) refl t.0 (ends from to t.1)

pub blend_lists-begin : (from to : List TransformOp) → IsList from → IsAlike (blend_lists from to (pos 0)) from
blend_lists-begin from to f = begins from to f.within

pub blend_lists-end : (from to : List TransformOp) → IsList to → IsAlike (blend_lists from to (pos ONE)) to
blend_lists-end from to t = ends from to t.within

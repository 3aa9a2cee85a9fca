-- A blend of two lists is a list: it is no longer than they are, and its numbers are in range.
use Rattle.std.proofs.Common.{ℕ, zero, suc, ◌+◌, ◌≤◌, Bool, true, false, if◌then◌else◌, ℤ, List, [], ◌∷◌, map, length, drop, All, arith, int_lt, pos, ◌/◌}
use Rattle.std.specs.List.{AllByRecursion}
use Rattle.std.proofs.lemmas.List.{length-map}
use Rattle.anim_names.specs.declared.progress.TheConstants.{ONE}
use Rattle.transform_ops.specs.declared.TheConstants.{MOST_OPERATIONS}
use Rattle.transform_ops.specs.declared.op.TransformOp.{TransformOp}
use Rattle.transform_ops.specs.Operations.{matches, neutral_of, IsOperation, blend_operations}
use Rattle.transform_ops.specs.OperationLemmas.{IsOperation-blend_operations, IsOperation-neutral}
use Rattle.transform_ops.specs.Lists.{IsList, nearer_list, blend_lists}

pub All-from_recursion : (ops : List TransformOp) → AllByRecursion IsOperation ops → All IsOperation ops
All-from_recursion [] h k d below = absurd (omega arith)
All-from_recursion (a ∷ ops) h zero d below = h.0
All-from_recursion (a ∷ ops) h (suc k) d below = All-from_recursion ops h.1 k d (omega arith)

pub All-drop : (n : ℕ) (ops : List TransformOp) → AllByRecursion IsOperation ops → All IsOperation (drop n ops)
All-drop zero ops h = All-from_recursion ops h
All-drop (suc n) [] h = All-from_recursion [] tt
All-drop (suc n) (a ∷ ops) h = All-drop n ops h.1

-- ---- the length

nearer-short : (from to : List TransformOp) (progress : ℤ) (n : ℕ) → length from ≤ n → length to ≤ n →
    length (nearer_list from to progress) ≤ n
nearer-short from to progress n f t =
    elim (int_lt progress (pos (ONE / 2))) as (λ first. length (if first then from else to) ≤ n) [ true ↦ f | false ↦ t ]

short-at : (m : Bool) (c : TransformOp) (ops other : List TransformOp) (n : ℕ) → length ops + 1 ≤ n → length other ≤ n →
    length (if m then c ∷ ops else other) ≤ n
short-at true c ops other n o r = omega arith
short-at false c ops other n o r = r

pub length-blend_lists : (from to : List TransformOp) (progress : ℤ) (n : ℕ) → length from ≤ n → length to ≤ n →
    length (blend_lists from to progress) ≤ n
length-blend_lists [] to progress n f t = rw (length-map to (λ b. blend_operations (neutral_of b) b progress)) t
length-blend_lists (a ∷ from) [] progress n f t = rw (length-map from (λ a. blend_operations a (neutral_of a) progress)) f
length-blend_lists (a ∷ from) (b ∷ to) progress zero f t = absurd (omega arith)
length-blend_lists (a ∷ from) (b ∷ to) progress (suc n) f t =
    let shorter = length-blend_lists from to progress n (omega arith) (omega arith) in
    short-at (matches a b) (blend_operations a b progress) (blend_lists from to progress) (nearer_list (a ∷ from) (b ∷ to) progress) (suc n)
    (omega arith)
    (nearer-short (a ∷ from) (b ∷ to) progress (suc n) f t)

-- ---- the numbers

from_none-within : (to : List TransformOp) (progress : ℤ) → AllByRecursion IsOperation to →
    AllByRecursion IsOperation (map (λ b. blend_operations (neutral_of b) b progress) to)
from_none-within [] progress t = tt
from_none-within (b ∷ to) progress t =
    (IsOperation-blend_operations (neutral_of b) b progress (IsOperation-neutral b t.0), from_none-within to progress t.1)

to_none-within : (from : List TransformOp) (progress : ℤ) → AllByRecursion IsOperation from →
    AllByRecursion IsOperation (map (λ a. blend_operations a (neutral_of a) progress) from)
to_none-within [] progress f = tt
to_none-within (a ∷ from) progress f =
    (IsOperation-blend_operations a (neutral_of a) progress f.0, to_none-within from progress f.1)

nearer-within : (from to : List TransformOp) (progress : ℤ) → AllByRecursion IsOperation from → AllByRecursion IsOperation to →
    AllByRecursion IsOperation (nearer_list from to progress)
nearer-within from to progress f t =
    elim (int_lt progress (pos (ONE / 2))) as (λ first. AllByRecursion IsOperation (if first then from else to)) [ true ↦ f | false ↦ t ]

within-at : (m : Bool) (c : TransformOp) (ops other : List TransformOp) → IsOperation c → AllByRecursion IsOperation ops →
    AllByRecursion IsOperation other → AllByRecursion IsOperation (if m then c ∷ ops else other)
within-at true c ops other h o r = (h, o)
within-at false c ops other h o r = r

pub blend_lists-within : (from to : List TransformOp) (progress : ℤ) → AllByRecursion IsOperation from → AllByRecursion IsOperation to →
    AllByRecursion IsOperation (blend_lists from to progress)
blend_lists-within [] to progress f t = from_none-within to progress t
blend_lists-within (a ∷ from) [] progress f t = to_none-within (a ∷ from) progress f
blend_lists-within (a ∷ from) (b ∷ to) progress f t =
    within-at (matches a b) (blend_operations a b progress) (blend_lists from to progress) (nearer_list (a ∷ from) (b ∷ to) progress)
    (IsOperation-blend_operations a b progress f.0)
    (blend_lists-within from to progress f.1 t.1)
    (nearer-within (a ∷ from) (b ∷ to) progress f t)

pub IsList-blend_lists : (from to : List TransformOp) (progress : ℤ) → IsList from → IsList to →
    IsList (blend_lists from to progress)
IsList-blend_lists from to progress f t = record {
  short = length-blend_lists from to progress MOST_OPERATIONS f.short t.short;
  within = blend_lists-within from to progress f.within t.within;
}

-- How many operations from the front match, and the blend of two lists up to there and from there on.
use Rattle.std.proofs.Common.{◌≡◌, ℕ, zero, suc, ◌+◌, ◌<◌, ◌≤◌, min, get_or, Bool, true, false, if◌then◌else◌, cond, ℤ, List, [], ◌∷◌, ◌++◌, map, length, take, drop, refl, arith, ap, sym, ◌∙◌}
use Rattle.std.specs.List.{take_while, prefix_len, zip}
use Rattle.std.proofs.lemmas.List.Folds.{length-prefix_len}
use Rattle.std.proofs.lemmas.List.Sums.{prefix_len-le-length}
use Rattle.std.proofs.lemmas.Slice.Zip.{length-zip}
use Rattle.transform_ops.specs.declared.op.TransformOp.{TransformOp}
use Rattle.transform_ops.specs.Operations.{matches, neutral_of, blend_operations}
use Rattle.transform_ops.specs.Lists.{match_len, nearer_list, blend_lists}

abbrev pub pair_matches : TransformOp × TransformOp → Bool
pair_matches p = matches p.0 p.1

prefix_len-zip : (from to : List TransformOp) → prefix_len pair_matches (zip from to) ≡ match_len from to
prefix_len-zip [] to = refl
prefix_len-zip (a ∷ from) [] = refl
prefix_len-zip (a ∷ from) (b ∷ to) = ap (λ n. cond (matches a b) (1 + n) 0) (prefix_len-zip from to)

pub match_count : (from to : List TransformOp) → length (take_while pair_matches (zip from to)) ≡ match_len from to
match_count from to = length-prefix_len pair_matches (zip from to) ∙ prefix_len-zip from to

pub match_len-within : (from to : List TransformOp) → (match_len from to ≤ length from) × (match_len from to ≤ length to)
match_len-within from to =
    let zipped = prefix_len-le-length pair_matches (zip from to) in
    let places = prefix_len-zip from to in
    let pairs = length-zip from to in
    (omega arith, omega arith)

-- the blends of the first n operations, one by one
abbrev pub front : ℕ → List TransformOp → List TransformOp → ℤ → List TransformOp
front n from to progress = map (λ (p : TransformOp × TransformOp). blend_operations p.0 p.1 progress) (zip (take n from) (take n to))

abbrev pub rest : ℕ → List TransformOp → List TransformOp → ℤ → List TransformOp
rest n from to progress = blend_lists (drop n from) (drop n to) progress

pub front-more : (n : ℕ) (from to : List TransformOp) (progress : ℤ) (d e : TransformOp) → n < length from → n < length to →
    front (suc n) from to progress ≡ front n from to progress ++ blend_operations (get_or from n d) (get_or to n e) progress ∷ []
front-more n [] to progress d e f t = absurd (omega arith)
front-more n (a ∷ from) [] progress d e f t = absurd (omega arith)
front-more zero (a ∷ from) (b ∷ to) progress d e f t = refl
front-more (suc n) (a ∷ from) (b ∷ to) progress d e f t =
    ap (λ ops. blend_operations a b progress ∷ ops) (front-more n from to progress d e (omega arith) (omega arith))

-- past the end of the shorter list there are no more
pub front-all : (n : ℕ) (from to : List TransformOp) (progress : ℤ) → n ≡ min (length from) (length to) →
    front n from to progress ≡ map (λ (p : TransformOp × TransformOp). blend_operations p.0 p.1 progress) (zip from to)
front-all zero [] to progress is = refl
front-all (suc n) [] to progress is = refl
front-all zero (a ∷ from) [] progress is = refl
front-all (suc n) (a ∷ from) [] progress is = refl
front-all zero (a ∷ from) (b ∷ to) progress is = absurd (omega arith)
front-all (suc n) (a ∷ from) (b ∷ to) progress is =
    ap (λ ops. blend_operations a b progress ∷ ops) (front-all n from to progress (omega arith))

split-at : (n : ℕ) (a b : TransformOp) (from to : List TransformOp) (progress : ℤ) (m : Bool) →
    suc n ≤ (if m then 1 + match_len from to else 0) →
    (n ≤ match_len from to → front n from to progress ++ rest n from to progress ≡ blend_lists from to progress) →
    blend_operations a b progress ∷ (front n from to progress ++ rest n from to progress) ≡
    (if m then blend_operations a b progress ∷ blend_lists from to progress else nearer_list (a ∷ from) (b ∷ to) progress)
split-at n a b from to progress true h split = ap (λ ops. blend_operations a b progress ∷ ops) (split (omega arith))
split-at n a b from to progress false h split = absurd (omega arith)

pub blend_lists-split : (n : ℕ) (from to : List TransformOp) (progress : ℤ) → n ≤ match_len from to →
    front n from to progress ++ rest n from to progress ≡ blend_lists from to progress
blend_lists-split zero from to progress h = refl
blend_lists-split (suc n) [] to progress h = absurd (omega arith)
blend_lists-split (suc n) (a ∷ from) [] progress h = absurd (omega arith)
blend_lists-split (suc n) (a ∷ from) (b ∷ to) progress h =
    split-at n a b from to progress (matches a b) h (blend_lists-split n from to progress)

drop-at : (n : ℕ) (a b : TransformOp) (from to : List TransformOp) (m : Bool) → suc n ≡ (if m then 1 + match_len from to else 0) →
    (n ≡ match_len from to → match_len (drop n from) (drop n to) ≡ 0) → match_len (drop n from) (drop n to) ≡ 0
drop-at n a b from to true is rest = rest (omega arith)
drop-at n a b from to false is rest = absurd (omega arith)

pub match_len-drop : (n : ℕ) (from to : List TransformOp) → n ≡ match_len from to → match_len (drop n from) (drop n to) ≡ 0
match_len-drop zero from to is = sym is
match_len-drop (suc n) [] to is = absurd (omega arith)
match_len-drop (suc n) (a ∷ from) [] is = absurd (omega arith)
match_len-drop (suc n) (a ∷ from) (b ∷ to) is = drop-at n a b from to (matches a b) is (match_len-drop n from to)

-- ---- what is left where no more operations match

pub rest_from_none : (from to : List TransformOp) (progress : ℤ) → length from ≡ 0 →
    blend_lists from to progress ≡ map (λ b. blend_operations (neutral_of b) b progress) to
rest_from_none [] to progress none = refl
rest_from_none (a ∷ from) to progress none = absurd (omega arith)

pub rest_to_none : (from to : List TransformOp) (progress : ℤ) → length to ≡ 0 →
    blend_lists from to progress ≡ map (λ a. blend_operations a (neutral_of a) progress) from
rest_to_none [] [] progress none = refl
rest_to_none (a ∷ from) [] progress none = refl
rest_to_none from (b ∷ to) progress none = absurd (omega arith)

rest-at : (m : Bool) (n : ℕ) (c : TransformOp) (ops other : List TransformOp) → (if m then 1 + n else 0) ≡ 0 →
    (if m then c ∷ ops else other) ≡ other
rest-at true n c ops other none = absurd (omega arith)
rest-at false n c ops other none = refl

pub rest_nearer : (from to : List TransformOp) (progress : ℤ) → match_len from to ≡ 0 → 0 < length from → 0 < length to →
    blend_lists from to progress ≡ nearer_list from to progress
rest_nearer [] to progress none f t = absurd (omega arith)
rest_nearer (a ∷ from) [] progress none f t = absurd (omega arith)
rest_nearer (a ∷ from) (b ∷ to) progress none f t =
    rest-at (matches a b) (match_len from to) (blend_operations a b progress) (blend_lists from to progress)
    (nearer_list (a ∷ from) (b ∷ to) progress) none

-- ---- the whole

-- the blends of the operations that match, and then those of the rest, are the blend of two lists
pub whole : (n : ℕ) (from to f0 f1 t0 t1 none pairs ops : List TransformOp) (progress : ℤ) → n ≡ match_len from to →
    f0 ≡ take n from → f1 ≡ drop n from → t0 ≡ take n to → t1 ≡ drop n to → none ≡ [] →
    pairs ≡ none ++ map (λ (p : TransformOp × TransformOp). blend_operations p.0 p.1 progress) (zip f0 t0) →
    ops ≡ pairs ++ blend_lists f1 t1 progress →
    ops ≡ blend_lists from to progress
whole n from to f0 f1 t0 t1 none pairs ops progress is a b c d e f g =
    let split = blend_lists-split n from to progress (omega arith) in
    rw (g, f, e, a, b, c, d) split

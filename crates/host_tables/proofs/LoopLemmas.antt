-- Loops over a list by index: what is made so far, and then what the rest gives, is all.
use Rattle.std.proofs.Common.{arith, ◌≡◌, ℕ, ◌+◌, ◌≤◌, Bool, true, false, List, [], ◌∷◌, ◌++◌, length, drop, filter, cond, Some, sym, ap, ◌∙◌, append_assoc}
use Rattle.std.specs.Prelude.{slice_get, ◌&&◌, ◌||◌}
use Rattle.std.specs.List.{list_all}
use Rattle.std.proofs.lemmas.List.{drop_all, append-nil}
use Rattle.std.proofs.Math.Bool.{and_assoc, or-false, or_assoc}
use Rattle.tree_commit.proofs.Among.{drop-found}

-- ---- lists

-- what the element at an index gives is made, and the rest is left
pub made-next : {X Y : Type 0} (F : List X → List Y) (xs : List X) (i : ℕ) (x : X) (made now step all : List Y)
    → slice_get xs i ≡ Some x
    → F (x ∷ drop (i + 1) xs) ≡ step ++ F (drop (i + 1) xs)
    → now ≡ made ++ step
    → made ++ F (drop i xs) ≡ all
    → now ++ F (drop (i + 1) xs) ≡ all
made-next F xs i x made now step all found gives is so_far =
    ap (λ m. m ++ F (drop (i + 1) xs)) is
    ∙ append_assoc made step (F (drop (i + 1) xs))
    ∙ ap (λ l. made ++ l) (sym gives ∙ ap F (sym (drop-found xs i x found)))
    ∙ so_far

-- nothing is left
pub made-last : {X Y : Type 0} (F : List X → List Y) (xs : List X) (i : ℕ) (made all : List Y)
    → length xs ≤ i
    → F [] ≡ []
    → made ++ F (drop i xs) ≡ all
    → made ≡ all
made-last F xs i made all past none so_far =
    sym (append-nil made) ∙ ap (λ l. made ++ l) (sym (ap F (drop_all i xs past) ∙ none)) ∙ so_far

-- ---- tests

pub all-next : {X : Type 0} (F : List X → Bool) (xs : List X) (i : ℕ) (x : X) (so_far now step all : Bool)
    → slice_get xs i ≡ Some x
    → F (x ∷ drop (i + 1) xs) ≡ (step && F (drop (i + 1) xs))
    → now ≡ (so_far && step)
    → (so_far && F (drop i xs)) ≡ all
    → (now && F (drop (i + 1) xs)) ≡ all
all-next F xs i x so_far now step all found gives is before =
    ap (λ b. b && F (drop (i + 1) xs)) is
    ∙ and_assoc so_far step (F (drop (i + 1) xs))
    ∙ ap (λ b. so_far && b) (sym gives ∙ ap F (sym (drop-found xs i x found)))
    ∙ before

pub any-next : {X : Type 0} (F : List X → Bool) (xs : List X) (i : ℕ) (x : X) (so_far now step all : Bool)
    → slice_get xs i ≡ Some x
    → F (x ∷ drop (i + 1) xs) ≡ (step || F (drop (i + 1) xs))
    → now ≡ (so_far || step)
    → (so_far || F (drop i xs)) ≡ all
    → (now || F (drop (i + 1) xs)) ≡ all
any-next F xs i x so_far now step all found gives is before =
    ap (λ b. b || F (drop (i + 1) xs)) is
    ∙ or_assoc so_far step (F (drop (i + 1) xs))
    ∙ ap (λ b. so_far || b) (sym gives ∙ ap F (sym (drop-found xs i x found)))
    ∙ before

pub any-last : {X : Type 0} (F : List X → Bool) (xs : List X) (i : ℕ) (so_far all : Bool)
    → length xs ≤ i
    → F [] ≡ false
    → (so_far || F (drop i xs)) ≡ all
    → so_far ≡ all
any-last F xs i so_far all past none before =
    sym (or-false so_far) ∙ ap (λ b. so_far || b) (sym (ap F (drop_all i xs past) ∙ none)) ∙ before

-- ---- filters

-- a test of the elements that pass another, one by one
pub all-filter : {X : Type 0} (p q : X → Bool) (x : X) (xs : List X) (b : Bool) → p x ≡ b
    → list_all q (filter p (x ∷ xs)) ≡ (cond b (q x) true && list_all q (filter p xs))
all-filter p q x xs true is = ap (λ c. list_all q (cond c (x ∷ filter p xs) (filter p xs))) is
all-filter p q x xs false is = ap (λ c. list_all q (cond c (x ∷ filter p xs) (filter p xs))) is

one : {X : Type 0} (x : X) (xs : List X) (b : Bool) → length (cond b (x ∷ xs) xs) ≡ cond b 1 0 + length xs
one x xs true = omega arith
one x xs false = omega arith

-- what counts one element counts at most 1
pub one-most : (b : Bool) → cond b 1 0 ≤ 1
one-most true = omega arith
one-most false = omega arith

-- Lists of the numbers from one on, and what each of them gives.
use Rattle.std.proofs.Common.{◌≡◌, ℕ, zero, suc, ◌+◌, ◌*◌, ◌<◌, ◌≤◌, true, false, ◌||◌, eqb, List, [], ◌∷◌, ◌++◌, length, length-append, refl, ap, sym, ◌∙◌, append_assoc, append-nil, arith}
use Rattle.std.specs.List.{flat_map, range_with_len, AllByRecursion}
use Rattle.std.proofs.lemmas.Bool.{eqb-false, ne_eqb}
use Rattle.tree_commit.specs.Edits.{is_in}

-- ---- one number more

pub range-more : (n a : ℕ) → range_with_len a (suc n) ≡ range_with_len a n ++ (a + n) ∷ []
range-more zero a = let e : a ≡ a + 0 = omega arith in ap (λ x. x ∷ []) e
range-more (suc n) a =
    let e : a + 1 + n ≡ a + suc n = omega arith in
    ap (λ xs. a ∷ xs) (range-more n (a + 1) ∙ ap (λ k. range_with_len (a + 1) n ++ k ∷ []) e)

-- the ids from 1 on, with the next one
pub next_id : (ids : List ℕ) (n id m : ℕ) → ids ≡ range_with_len 1 n → id ≡ 1 + n → suc n ≡ m → ids ++ id ∷ [] ≡ range_with_len 1 m
next_id ids n id m so is_next more =
    ap (λ xs. xs ++ id ∷ []) so ∙ ap (λ k. range_with_len 1 n ++ k ∷ []) is_next ∙ sym (range-more n 1) ∙ ap (λ k. range_with_len 1 k) more

-- what one number more gives
flat-last : {A : Type 0} (f : ℕ → List A) (n a : ℕ) → flat_map f (range_with_len a (suc n)) ≡ flat_map f (range_with_len a n) ++ f (a + n)
flat-last f zero a = let e : a ≡ a + 0 = omega arith in simp append-nil (ap f e)
flat-last f (suc n) a =
    let e : a + 1 + n ≡ a + suc n = omega arith in
    ap (λ xs. f a ++ xs) (flat-last f n (a + 1)) ∙ sym (append_assoc (f a) (flat_map f (range_with_len (a + 1) n)) (f (a + 1 + n)))
    ∙ ap (λ k. (f a ++ flat_map f (range_with_len (a + 1) n)) ++ f k) e

pub one_more : {A : Type 0} (f : ℕ → List A) (before : List A) (a n m i : ℕ) → i ≡ a + n → m ≡ suc n
    → (before ++ flat_map f (range_with_len a n)) ++ f i ≡ before ++ flat_map f (range_with_len a m)
one_more f before a n m i at more =
    append_assoc before (flat_map f (range_with_len a n)) (f i)
    ∙ ap (λ k. before ++ (flat_map f (range_with_len a n) ++ f k)) at
    ∙ ap (λ xs. before ++ xs) (sym (flat-last f n a))
    ∙ ap (λ k. before ++ flat_map f (range_with_len a k)) (sym more)

-- ---- which numbers are among them

pub in_range : (n a id : ℕ) → a ≤ id → id < a + n → is_in id (range_with_len a n) ≡ true
in_range zero a id low high = absurd (omega arith)
in_range (suc n) a id low high =
    elim (eqb id a) as (λ b. eqb id a ≡ b → (b || is_in id (range_with_len (a + 1) n)) ≡ true) [
      | true ↦ λ _. refl
      | false ↦ λ other.
          let above : a ≡ id → ⊥ = λ e. eqb-false id a other (sym e) in
          in_range n (a + 1) id (omega arith) (omega arith)
    ] refl

pub not_in_range : (n a id : ℕ) → a + n ≤ id → is_in id (range_with_len a n) ≡ false
not_in_range zero a id high = refl
not_in_range (suc n) a id high =
    let other : eqb id a ≡ false = ne_eqb id a (λ e. omega arith) in
    rw (other, not_in_range n (a + 1) id (omega arith)) refl

-- ---- what is so of all that they give

pub all-append : {A : Type 0} (P : A → Type 0) (xs ys : List A) → AllByRecursion P xs → AllByRecursion P ys → AllByRecursion P (xs ++ ys)
all-append P [] ys of_xs of_ys = of_ys
all-append P (x ∷ xs) ys of_xs of_ys = (of_xs.0, all-append P xs ys of_xs.1 of_ys)

pub all-each : {A : Type 0} (P : A → Type 0) (f : ℕ → List A) (n a : ℕ)
    → ((i : ℕ) → a ≤ i → i < a + n → AllByRecursion P (f i)) → AllByRecursion P (flat_map f (range_with_len a n))
all-each P f zero a each = tt
all-each P f (suc n) a each =
    all-append P (f a) (flat_map f (range_with_len (a + 1) n)) (each a (omega arith) (omega arith))
    (all-each P f n (a + 1) (λ i low high. each i (omega arith) (omega arith)))

-- where each gives at most this number
pub length-each : {A : Type 0} (most : ℕ) (f : ℕ → List A) → ((i : ℕ) → length (f i) ≤ most) → (n a : ℕ)
    → length (flat_map f (range_with_len a n)) ≤ n * most
length-each most f few zero a = omega arith
length-each most f few (suc n) a =
    let rest = length-each most f few n (a + 1) in
    let here = few a in
    simp length-append (omega arith)

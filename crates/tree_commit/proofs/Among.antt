-- Elements of lists, and what tests, maps and filters make of them.
use Rattle.std.proofs.Common.{◌≡◌, ℕ, zero, suc, ◌<◌, length, slice_index_or, arith, nat_eq, Bool, true, false, cond, List, [], ◌∷◌, ◌++◌, map, filter, Some, refl, sym, ap, subst, ◌∙◌, ◌⊎◌, inl, inr}
use Rattle.std.specs.Prelude.{◌==◌, All, slice_get, ◌≢◌, ◌+◌, drop, unwrap_or}
use Rattle.std.specs.List.{AllByRecursion, IsDistinct, list_any, list_all}
use Rattle.std.proofs.lemmas.Bool.{false≢true, eq-eqb, or_left, or_right, or_cases, and_parts}
use Rattle.std.proofs.lemmas.List.Elements.{All-head, All-tail}
use Rattle.std.proofs.lemmas.Option.{get_or_from_slice_get, none-some, same_Some, slice_get_within, unwrap_or-slice_get}
use Rattle.keyframe_model.specs.Models.{Spec}
use Rattle.tree_commit.specs.Edits.{without}
use Rattle.anim_names.specs.Lists.{IsAmong}
use Rattle.std.proofs.lemmas.List.{drop_more}
use Rattle.std.proofs.lemmas.Bool.Decides.{eqb_tells}

pub among-append_left : {A : Type 0} (x : A) (xs ys : List A) → IsAmong x xs → IsAmong x (xs ++ ys)
among-append_left x [] ys h = absurd h
among-append_left x (y ∷ xs) ys (inl e) = inl e
among-append_left x (y ∷ xs) ys (inr h) = inr (among-append_left x xs ys h)

pub among-append_right : {A : Type 0} (x : A) (xs ys : List A) → IsAmong x ys → IsAmong x (xs ++ ys)
among-append_right x [] ys h = h
among-append_right x (y ∷ xs) ys h = inr (among-append_right x xs ys h)

pub among-append_cases : {A : Type 0} (x : A) (xs ys : List A) → IsAmong x (xs ++ ys) → IsAmong x xs ⊎ IsAmong x ys
among-append_cases x [] ys h = inr h
among-append_cases x (y ∷ xs) ys (inl e) = inl (inl e)
among-append_cases {A} x (y ∷ xs) ys (inr h) = go (among-append_cases x xs ys h)
  where
    go : IsAmong x xs ⊎ IsAmong x ys → IsAmong x (y ∷ xs) ⊎ IsAmong x ys
    go (inl l) = inl (inr l)
    go (inr r) = inr r

pub among-one_more : {A : Type 0} (x : A) (xs : List A) (y : A) → IsAmong x (xs ++ y ∷ []) → IsAmong x xs ⊎ (x ≡ y)
among-one_more x [] y (inl e) = inr e
among-one_more x [] y (inr h) = absurd h
among-one_more x (z ∷ xs) y (inl e) = inl (inl e)
among-one_more {A} x (z ∷ xs) y (inr h) = go (among-one_more x xs y h)
  where
    go : IsAmong x xs ⊎ (x ≡ y) → IsAmong x (z ∷ xs) ⊎ (x ≡ y)
    go (inl l) = inl (inr l)
    go (inr e) = inr e

-- the last of a list
pub among-last : {A : Type 0} (x : A) (xs : List A) → IsAmong x (xs ++ x ∷ [])
among-last x xs = among-append_right x xs (x ∷ []) (inl refl)

pub among-map : {A B : Type 0} (f : A → B) (x : A) (xs : List A) → IsAmong x xs → IsAmong (f x) (map f xs)
among-map f x [] h = absurd h
among-map f x (y ∷ xs) (inl e) = inl (ap f e)
among-map f x (y ∷ xs) (inr h) = inr (among-map f x xs h)

pub among-map_cases : {A B : Type 0} (f : A → B) (y : B) (xs : List A) → IsAmong y (map f xs) → (x : A) × IsAmong x xs × (y ≡ f x)
among-map_cases f y [] h = absurd h
among-map_cases f y (x ∷ xs) (inl e) = (x, inl refl, e)
among-map_cases f y (x ∷ xs) (inr h) = let found = among-map_cases f y xs h in (found.0, inr found.1, found.2)

pub among-filter : {A : Type 0} (p : A → Bool) (x : A) (xs : List A) → IsAmong x (filter p xs) → IsAmong x xs × (p x ≡ true)
among-filter p x [] h = absurd h
among-filter {A} p x (y ∷ xs) h = go (p y) refl (among-filter p x xs) h
  where
    go : (passes : Bool) → p y ≡ passes → (IsAmong x (filter p xs) → IsAmong x xs × (p x ≡ true)) → IsAmong x (cond passes (y ∷ filter p xs) (filter p xs)) → IsAmong x (y ∷ xs) × (p x ≡ true)
    go true e rest (inl same) = (inl same, ap p same ∙ e)
    go true e rest (inr h) = let found = rest h in (inr found.0, found.1)
    go false e rest h = let found = rest h in (inr found.0, found.1)

pub among-filter_from : {A : Type 0} (p : A → Bool) (x : A) (xs : List A) → IsAmong x xs → p x ≡ true → IsAmong x (filter p xs)
among-filter_from p x [] h passes = absurd h
among-filter_from {A} p x (y ∷ xs) h passes = go (p y) refl h (λ r. among-filter_from p x xs r passes)
  where
    go : (kept : Bool) → p y ≡ kept → IsAmong x (y ∷ xs) → (IsAmong x xs → IsAmong x (filter p xs)) → IsAmong x (cond kept (y ∷ filter p xs) (filter p xs))
    go true e (inl same) rest = inl same
    go true e (inr r) rest = inr (rest r)
    go false e (inl same) rest = absurd (false≢true (sym e ∙ ap p (sym same) ∙ passes))
    go false e (inr r) rest = rest r

-- ---- tests

pub any-among : {A : Type 0} (p : A → Bool) (x : A) (xs : List A) → IsAmong x xs → p x ≡ true → list_any p xs ≡ true
any-among p x [] h passes = absurd h
any-among p x (y ∷ xs) (inl e) passes = or_left (p y) (list_any p xs) (ap p (sym e) ∙ passes)
any-among p x (y ∷ xs) (inr h) passes = or_right (p y) (list_any p xs) (any-among p x xs h passes)

pub any-cases : {A : Type 0} (p : A → Bool) (xs : List A) → list_any p xs ≡ true → (x : A) × IsAmong x xs × (p x ≡ true)
any-cases p [] h = absurd (false≢true h)
any-cases {A} p (y ∷ xs) h = go (or_cases (p y) (list_any p xs) h) (any-cases p xs)
  where
    go : (p y ≡ true) ⊎ (list_any p xs ≡ true) → (list_any p xs ≡ true → (x : A) × IsAmong x xs × (p x ≡ true)) → (x : A) × IsAmong x (y ∷ xs) × (p x ≡ true)
    go (inl e) rest = (y, inl refl, e)
    go (inr r) rest = let found = rest r in (found.0, inr found.1, found.2)

-- a test that no element passes
pub any-none : {A : Type 0} (p : A → Bool) (xs : List A) → ((x : A) → IsAmong x xs → p x ≡ true → ⊥) → list_any p xs ≡ false
any-none {A} p xs none = go (list_any p xs) refl
  where
    go : (some : Bool) → list_any p xs ≡ some → some ≡ false
    go true e = let found = any-cases p xs e in absurd (none found.0 found.1 found.2)
    go false e = refl

pub all-among : {A : Type 0} (p : A → Bool) (x : A) (xs : List A) → list_all p xs ≡ true → IsAmong x xs → p x ≡ true
all-among p x [] all h = absurd h
all-among p x (y ∷ xs) all (inl e) = ap p e ∙ (and_parts (p y) (list_all p xs) all).0
all-among p x (y ∷ xs) all (inr h) = all-among p x xs (and_parts (p y) (list_all p xs) all).1 h

-- ---- what is true of each

pub each-among : {A : Type 0} (P : A → Type 0) (x : A) (xs : List A) → All P xs → IsAmong x xs → P x
each-among P x [] all h = absurd h
each-among P x (y ∷ xs) all (inl e) = subst P (sym e) (All-head P y xs all)
each-among P x (y ∷ xs) all (inr h) = each-among P x xs (All-tail P y xs all) h

-- and of the one at an index
pub each-found : {A : Type 0} (P : A → Type 0) (x : A) (xs : List A) (i : ℕ) → All P xs → slice_get xs i ≡ Some x → P x
each-found P x xs i all found = subst P (get_or_from_slice_get xs i x x found) (all i x (slice_get_within xs i x found))

pub among-found : {A : Type 0} (x : A) (xs : List A) (i : ℕ) → slice_get xs i ≡ Some x → IsAmong x xs
among-found x [] i found = absurd (none-some x found)
among-found x (y ∷ xs) zero found = inl (sym (same_Some y x found))
among-found x (y ∷ xs) (suc i) found = inr (among-found x xs i found)

pub all-are-among : {A : Type 0} (xs : List A) → All (λ x. IsAmong x xs) xs
all-are-among xs = in-front xs
  where
    in-front : {A : Type 0} (xs : List A) (i : ℕ) (d : A) → i < length xs → IsAmong (slice_index_or xs i d) xs
    in-front [] i d within = absurd (omega arith)
    in-front (x ∷ xs) zero d within = inl refl
    in-front (x ∷ xs) (suc i) d within = inr (in-front xs i d (omega arith))

-- ---- models by their ids

pub among-has : (model : Spec) (models : List Spec) → IsAmong model models → list_any (λ (m : Spec). model.id == m.id) models ≡ true
among-has model models h = any-among (λ (m : Spec). model.id == m.id) model models h (eq-eqb model.id model.id refl)

-- a model among those behind has another id
other-id : (id : ℕ) (model : Spec) (models : List Spec) → AllByRecursion (λ other. nat_eq id other ≡ false) (map (λ (m : Spec). m.id) models)
    → IsAmong model models → nat_eq id model.id ≡ false
other-id id model [] all h = absurd h
other-id id model (x ∷ models) all (inl e) = ap (λ (m : Spec). nat_eq id m.id) e ∙ all.0
other-id id model (x ∷ models) all (inr h) = other-id id model models all.1 h

-- two models of one id are one
pub one-model : (models : List Spec) (model twin : Spec) → IsDistinct nat_eq (map (λ (m : Spec). m.id) models)
    → IsAmong model models → IsAmong twin models → model.id ≡ twin.id → model ≡ twin
unfolding IsDistinct
one-model [] model twin apart a b same = absurd a
one-model (x ∷ models) model twin apart (inl e) (inl f) same = e ∙ sym f
one-model (x ∷ models) model twin apart (inl e) (inr b) same =
    absurd (false≢true (sym (other-id x.id twin models apart.0 b) ∙ eq-eqb x.id twin.id (sym (ap (λ (m : Spec). m.id) e) ∙ same)))
one-model (x ∷ models) model twin apart (inr a) (inl f) same =
    absurd (false≢true (sym (other-id x.id model models apart.0 a) ∙ eq-eqb x.id model.id (sym (ap (λ (m : Spec). m.id) f) ∙ sym same)))
one-model (x ∷ models) model twin apart (inr a) (inr b) same = one-model models model twin apart.1 a b same

-- ---- without the first that passes

pub among-without : {A : Type 0} (p : A → Bool) (x : A) (xs : List A) → IsAmong x (without p xs) → IsAmong x xs
among-without p x [] h = absurd h
among-without {A} p x (y ∷ xs) h = go (p y) (among-without p x xs) h
  where
    go : (gone : Bool) → (IsAmong x (without p xs) → IsAmong x xs) → IsAmong x (cond gone xs (y ∷ without p xs)) → IsAmong x (y ∷ xs)
    go true rest h = inr h
    go false rest (inl e) = inl e
    go false rest (inr r) = inr (rest r)

-- ---- places in lists

-- the element at an index comes first of what is left from there on
pub drop-found : {X : Type 0} (xs : List X) (i : ℕ) (x : X) → slice_get xs i ≡ Some x → drop i xs ≡ x ∷ drop (i + 1) xs
drop-found xs i x found =
    drop_more xs i x (slice_get_within xs i x found)
    ∙ ap (λ y. y ∷ drop (i + 1) xs) (sym (unwrap_or-slice_get xs i x) ∙ ap (λ o. unwrap_or o x) found)

-- numbers that differ fail the test
pub apart : (a b : ℕ) → a ≢ b → nat_eq a b ≡ false
apart a b differ = elim (eqb_tells a b) [ inl t ↦ absurd (differ t.1) | inr f ↦ f.0 ]

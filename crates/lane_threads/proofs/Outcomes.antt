-- A fact of what a call left where it answered Ok, and the step at an index of a lane.
use Rattle.std.proofs.Common.{◌≡◌, ℕ, ◌+◌, ◌<◌, List, ◌∷◌, drop, get_or, length, map, Result, Ok, Err, IfOk, OnOk, sym, ap, ◌∙◌, subst, arith}
use Rattle.std.proofs.lemmas.List.{drop_more, get_or-map, length-map}

pub on_ok : {T E P Q : Type 0} (r : Result T E) → (P → Q) → OnOk r P → OnOk r Q
on_ok (Ok value) f p = f p
on_ok (Err error) f p = tt

-- the step at an index is the first of those from there on
pub step-at : {X Y : Type 0} (f : X → Y) (items : List X) (all : List Y) (i : ℕ) (item : X) → map f items ≡ all → i < length items → item ≡ get_or items i item → drop i all ≡ f item ∷ drop (i + 1) all
step-at {X} {Y} f items all i item is within at =
    let inside : i < length (map f items) = omega (arith, within, length-map items f) in
    subst (λ (l : List Y). drop i l ≡ f item ∷ drop (i + 1) l) is
    (drop_more (map f items) i (f item) inside ∙ ap (λ x. x ∷ drop (i + 1) (map f items)) (get_or-map f items i item (f item) within ∙ ap f (sym at)))

-- ---- a value that was found to be Ok

pub if_ok : {T E : Type 0} (P : T → Type 0) (r : Result T E) (value : T) → r ≡ Ok value → IfOk r P → P value
if_ok {T} {E} P r value is h = let Q : Result T E → Type 0 = λ x. IfOk x P in subst Q is h

pub where_ok : {T E P : Type 0} (r : Result T E) (value : T) → r ≡ Ok value → OnOk r P → P
where_ok {T} {E} {P} r value is h = let Q : Result T E → Type 0 = λ x. OnOk x P in subst Q is h

-- What `extend` leaves of a slice that is split: all of its parts, or the first few where there are more of them. More
-- parts than a field may have say nothing.
use Rattle.std.proofs.Common.{◌≡◌, ℕ, ◌<◌, Bool, false, List, [], ◌∷◌, ◌++◌, map, length, Option, Some, None, Result, Err, MatchResult, OnOk, Bor, ap, refl, sym, subst, ◌∙◌, arith}
use Rattle.std.specs.Fn.{CalledAt}
use Rattle.std.specs.Iterator.{Yields, YieldsThen, Drains, AlwaysYields}
use Rattle.std.specs.List.{slice_split}
use Rattle.std.specs.Option.{option_or}
use Rattle.std.specs.declared.slice.Split.{Split}
use Rattle.std.specs.Slice.Iter.{split_rest, split_done, split_callee, split_steps}
use Rattle.std.proofs.lemmas.Iterator.{YieldsList}
use Rattle.std.proofs.lemmas.Iterator.Adapters.{fact_from_extend}
use Rattle.std.proofs.lemmas.Iterator.Splits.{YieldsList-from_slice_split}
use Rattle.script_fields.specs.declared.fault.FieldFault.TheVariants.{BadForm}
use Rattle.script_fields.specs.Easings.{steps_said, cubic_said}
use Rattle.script_fields.specs.Lists.{has_form, operation_with}
use denote.Param.Members.{Mut}

-- where one more item follows on those that came, there are more than came
one_more : {S A B : Type 0} (steps : S → Option A → S → Type 0) (v : A → B) (all : List B) (s : S) (xs : List A) (x : A) (t u : S)
    → AlwaysYields steps v s all → Yields steps s xs t → steps t (Some x) u → length xs < length all
one_more steps v [] s [] x t u runs came more = absurd (runs x u (subst (λ at. steps at (Some x) u) (sym came) more))
one_more steps v [] s (z ∷ zs) x t u runs came more = absurd (runs z came.0 came.1)
one_more steps v (y ∷ ys) s [] x t u runs came more = omega arith
one_more steps v (y ∷ ys) s (z ∷ zs) x t u runs came more =
    let rest = one_more steps v ys came.0 zs x t u (runs.1 z came.0 came.1).1 came.2 more in omega arith

-- the test that the closure of a split computes
abbrev pub Computes : {A F : Type 0} → Mut F (Bor A × Unit {0}) Bool → F → (A → Bool) → Type 0
Computes {A} {F} g f p = (x : A) (b : Bool) (q : F) → CalledAt g f x b q → (q ≡ f) × (b ≡ p x)

-- the first premise is the clause `ran` of `extend`, the next ones are the clauses of `new` and of `split`
pub all_parts : {A F E : Type 0} (g : Mut F (Bor A × Unit {0}) Bool) (f : F) (p : A → Bool) (xs : List A) (s : Split A F) (old new : List (Bor (List A))) (r : Result (Unit {0}) E)
    → ((it : Split A F) × (ys : List (Bor (List A))) × (it ≡ s) × (new ≡ old ++ ys)
    × MatchResult r (λ _. Drains (split_steps g) it ys) (λ _. (t : Split A F) × Yields (split_steps g) it ys t))
    → old ≡ [] → split_rest s ≡ xs → split_done s ≡ false → split_callee s ≡ f → Computes g f p
    → OnOk r (map (λ part. part.now) new ≡ slice_split p xs)
all_parts g f p xs s old new r ran empty rest done callee computes =
    fact_from_extend {B = λ it. it ≡ s} {P = λ ys. new ≡ old ++ ys} (λ part. part.now) r ran
    (λ it is. subst (λ from. YieldsList (split_steps g) (λ part. part.now) from (slice_split p xs)) (sym is) (YieldsList-from_slice_split g p xs rest done callee computes))
    (λ ys is kept. ap (map (λ part. part.now)) (kept ∙ ap (λ front. front ++ ys) empty) ∙ is)

-- the first premise is the clause `one_more` of `extend`, the second one its clause `full`
pub more_parts : {A F : Type 0} (g : Mut F (Bor A × Unit {0}) Bool) (f : F) (p : A → Bool) (xs : List A) (s : Split A F) (old new : List (Bor (List A))) (room : ℕ)
    → ((it : Split A F) × (ys : List (Bor (List A))) × (y : Bor (List A)) × (after : Split A F) × (it ≡ s)
    × YieldsThen (split_steps g) it ys (Some y) after × (new ≡ old ++ ys))
    → length new ≡ room → old ≡ [] → split_rest s ≡ xs → split_done s ≡ false → split_callee s ≡ f → Computes g f p
    → room < length (slice_split p xs)
more_parts g f p xs s old new room ran full empty rest done callee computes =
    let road = subst (λ from. YieldsList (split_steps g) (λ part. part.now) from (slice_split p xs)) (sym ran.4) (YieldsList-from_slice_split g p xs rest done callee computes) in
    let came = ran.5 in
    let more = one_more (split_steps g) (λ part. part.now) (slice_split p xs) ran.0 ran.1 ran.2 came.0 ran.3 road.runs came.1 came.2 in
    let kept : new ≡ ran.1 = ran.6 ∙ ap (λ front. front ++ ran.1) empty in
    subst (λ count. count < length (slice_split p xs)) (sym (ap length kept) ∙ full) more

-- ---- more parts than a field may have

no_form : (ps : List (List ℕ)) → 5 < length ps → has_form ps ≡ false
no_form [] many = absurd (omega arith)
no_form (a ∷ []) many = absurd (omega arith)
no_form (a ∷ b ∷ []) many = absurd (omega arith)
no_form (a ∷ b ∷ c ∷ []) many = absurd (omega arith)
no_form (a ∷ b ∷ c ∷ d ∷ []) many = absurd (omega arith)
no_form (a ∷ b ∷ c ∷ d ∷ e ∷ []) many = absurd (omega arith)
no_form (a ∷ b ∷ c ∷ d ∷ e ∷ f ∷ more) many = refl

pub no_operation : (ps : List (List ℕ)) → 5 < length ps → operation_with ps ≡ Err BadForm
unfolding operation_with
no_operation ps many = rw (no_form ps many) refl

pub no_easing : (ps : List (List ℕ)) → 5 < length ps → option_or (steps_said ps) (cubic_said ps) ≡ None
no_easing [] many = absurd (omega arith)
no_easing (a ∷ []) many = absurd (omega arith)
no_easing (a ∷ b ∷ []) many = absurd (omega arith)
no_easing (a ∷ b ∷ c ∷ []) many = absurd (omega arith)
no_easing (a ∷ b ∷ c ∷ d ∷ []) many = absurd (omega arith)
no_easing (a ∷ b ∷ c ∷ d ∷ e ∷ []) many = absurd (omega arith)
no_easing (a ∷ b ∷ c ∷ d ∷ e ∷ f ∷ more) many = refl

-- Models of a commit by their indices: no two have one id.
use Rattle.std.proofs.Common.{◌≡◌, ℕ, zero, suc, ◌+◌, true, false, ◌||◌, List, [], ◌∷◌, map, take, drop, Some, refl, sym, ap, ◌∙◌, nat_eq, inl, inr}
use Rattle.std.specs.Prelude.{slice_get, ◌==◌}
use Rattle.std.specs.List.{IsDistinct, AllByRecursion}
use Rattle.std.proofs.lemmas.Bool.{eq-eqb}
use Rattle.std.proofs.Math.Bool.{or-false, or_assoc}
use Rattle.std.proofs.lemmas.Bool.Decides.{eqb_tells}
use Rattle.std.proofs.lemmas.Option.{none-some, same_Some}
use Rattle.std.proofs.lemmas.Map.Keys.{IsDistinct-head, IsDistinct-tail}
use Rattle.anim_names.specs.Lists.{IsAmong}
use Rattle.keyframe_model.specs.Models.{Spec}
use Rattle.tree_commit.proofs.Among.{among-found, among-has, drop-found}
use Rattle.host_tables.specs.States.{is_among}

-- one more of the first models
pub among-taken : (models : List Spec) (i : ℕ) (model : Spec) (id : ℕ) → slice_get models i ≡ Some model
    → is_among (take (suc i) models) id ≡ (is_among (take i models) id || (id == model.id))
among-taken [] i model id found = absurd (none-some model found)
among-taken (x ∷ models) zero model id found =
    or-false (id == x.id) ∙ ap (λ (m : Spec). id == m.id) (same_Some x model found)
among-taken (x ∷ models) (suc i) model id found =
    ap (λ b. (id == x.id) || b) (among-taken models i model id found)
    ∙ sym (or_assoc (id == x.id) (is_among (take i models) id) (id == model.id))

-- one fewer of the models that are left
pub among-left : (models : List Spec) (i : ℕ) (model : Spec) (id : ℕ) → slice_get models i ≡ Some model
    → is_among (drop i models) id ≡ ((id == model.id) || is_among (drop (i + 1) models) id)
among-left models i model id found = ap (λ (ms : List Spec). is_among ms id) (drop-found models i model found)

-- ---- no two have one id

none-among : (id : ℕ) (models : List Spec) → AllByRecursion (λ other. nat_eq id other ≡ false) (map (λ model. model.id) models) → is_among models id ≡ false
none-among id [] all = refl
none-among id (x ∷ models) all = ap (λ b. b || is_among models id) all.0 ∙ none-among id models all.1

other-than : (id : ℕ) (models : List Spec) (i : ℕ) (model : Spec)
    → AllByRecursion (λ other. nat_eq id other ≡ false) (map (λ model. model.id) models)
    → slice_get models i ≡ Some model → nat_eq model.id id ≡ false
other-than id [] i model all found = absurd (none-some model found)
other-than id (x ∷ models) zero model all found =
    elim (eqb_tells model.id id) [
      | inl t ↦
          let here : nat_eq id x.id ≡ true = eq-eqb id x.id (sym t.1 ∙ ap (λ (m : Spec). m.id) (sym (same_Some x model found))) in
          cc (here, all.0)
      | inr f ↦ f.0
    ]
other-than id (x ∷ models) (suc i) model all found = other-than id models i model all.1 found

-- a model is not among those behind it
pub apart-behind : (models : List Spec) (i : ℕ) (model : Spec) → IsDistinct nat_eq (map (λ model. model.id) models)
    → slice_get models i ≡ Some model → is_among (drop (suc i) models) model.id ≡ false
apart-behind [] i model differ found = absurd (none-some model found)
apart-behind (x ∷ models) zero model differ found =
    ap (λ (m : Spec). is_among models m.id) (sym (same_Some x model found)) ∙ none-among x.id models (IsDistinct-head nat_eq x.id (map (λ m. m.id) models) differ)
apart-behind (x ∷ models) (suc i) model differ found = apart-behind models i model (IsDistinct-tail nat_eq x.id (map (λ m. m.id) models) differ) found

-- nor among those before it
pub apart-before : (models : List Spec) (i : ℕ) (model : Spec) → IsDistinct nat_eq (map (λ model. model.id) models)
    → slice_get models i ≡ Some model → is_among (take i models) model.id ≡ false
apart-before [] i model differ found = absurd (none-some model found)
apart-before (x ∷ models) zero model differ found = refl
apart-before (x ∷ models) (suc i) model differ found =
    ap (λ b. b || is_among (take i models) model.id) (other-than x.id models i model (IsDistinct-head nat_eq x.id (map (λ m. m.id) models) differ) found) ∙ apart-before models i model (IsDistinct-tail nat_eq x.id (map (λ m. m.id) models) differ) found

-- ---- by index

-- where an element of a list stands
pub index-of : {A : Type 0} (x : A) (xs : List A) → IsAmong x xs → (k : ℕ) × (slice_get xs k ≡ Some x)
index-of x [] there = absurd there
index-of x (y ∷ xs) (inl same) = (0, ap Some (sym same))
index-of x (y ∷ xs) (inr rest) = let found = index-of x xs rest in (suc found.0, found.1)

pub found-there : (models : List Spec) (i : ℕ) (model : Spec) → slice_get models i ≡ Some model → is_among models model.id ≡ true
found-there models i model found = among-has model models (among-found model models i found)

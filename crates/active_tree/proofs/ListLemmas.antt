-- How the list of an element's models is made.
use Rattle.std.proofs.Common.{◌≡◌, ℕ, ◌+◌, ◌==◌, nat_eq, Bool, true, false, cond, if◌then◌else◌, List, [], ◌∷◌, ◌++◌, take, Option, Some, refl, sym, ap, ◌∙◌, inl, inr}
use Rattle.std.specs.Prelude.{slice_get, unwrap_or}
use Rattle.std.specs.Map.{lookup}
use Rattle.std.proofs.lemmas.List.{append-nil, take_more}
use Rattle.std.proofs.lemmas.List.Elements.{filter-append}
use Rattle.std.proofs.lemmas.Option.{slice_get_within, get_or_from_slice_get}
use Rattle.std.proofs.lemmas.Bool.Decides.{eqb_tells}
use Rattle.keyframe_model.specs.Models.{Spec}
use Rattle.active_tree.specs.ElementModels.{AreListsOf, listed_for, models_on}
use Rattle.tree_commit.proofs.Among.{apart}

-- ---- one more model

-- the lists with a model last in the list of its element
abbrev pub IsAdded : Spec → List (ℕ × List Spec) → List (ℕ × List Spec) → Type 0
IsAdded model old new =
    (element : ℕ) → listed_for element new ≡ (if element == model.element then listed_for element old ++ model ∷ [] else listed_for element old)

-- the lists are as they were, but for that of the key
abbrev pub IsWritten : ℕ → List Spec → List (ℕ × List Spec) → List (ℕ × List Spec) → Type 0
IsWritten key list old new = (e : ℕ) → lookup (nat_eq e) new ≡ cond (nat_eq key e) (Some list) (lookup (nat_eq e) old)

-- a list with the model last was written under its element
pub added-written : (model : Spec) (key : ℕ) (list : List Spec) (old new : List (ℕ × List Spec))
    → key ≡ model.element
    → list ≡ listed_for model.element old ++ model ∷ []
    → IsWritten key list old new
    → IsAdded model old new
added-written model key list old new is_key is_list written element =
    let found : lookup (nat_eq element) new ≡ cond (nat_eq model.element element) (Some list) (lookup (nat_eq element) old) =
    written element ∙ ap (λ k. cond (nat_eq k element) (Some list) (lookup (nat_eq element) old)) is_key in
    let by : Bool → List Spec = λ b. if b then listed_for element old ++ model ∷ [] else listed_for element old in
    ap (λ (o : Option (List Spec)). unwrap_or o []) found
    ∙ elim (eqb_tells element model.element) [
      | inl t ↦
          ap (λ e. unwrap_or (cond (nat_eq e element) (Some list) (lookup (nat_eq element) old)) []) (sym t.1)
          ∙ ap (λ b. unwrap_or (cond b (Some list) (lookup (nat_eq element) old)) []) (ap (nat_eq element) t.1 ∙ t.0)
          ∙ is_list
          ∙ ap (λ e. listed_for e old ++ model ∷ []) (sym t.1)
          ∙ sym (ap by t.0)
      | inr f ↦
          ap (λ b. unwrap_or (cond b (Some list) (lookup (nat_eq element) old)) []) (apart model.element element (λ e. f.1 (sym e)))
          ∙ sym (ap by f.0)
    ]

-- ---- all models

one_more : (l : List Spec) (model : Spec) (b : Bool) → (if b then l ++ model ∷ [] else l) ≡ l ++ cond b (model ∷ []) []
one_more l model true = refl
one_more l model false = sym (append-nil l)

-- the lists of the models before an index, and the model there added, are those of one model more
pub lists-more : (models : List Spec) (i : ℕ) (model : Spec) (old new : List (ℕ × List Spec))
    → slice_get models i ≡ Some model
    → IsAdded model old new
    → AreListsOf (take i models) old
    → AreListsOf (take (i + 1) models) new
lists-more models i model old new found added lists element =
    let front : take (i + 1) models ≡ take i models ++ model ∷ [] =
    take_more models i model (slice_get_within models i model found)
    ∙ ap (λ x. take i models ++ x ∷ []) (get_or_from_slice_get models i model model found) in
    added element
    ∙ ap (λ (l : List Spec). if element == model.element then l ++ model ∷ [] else l) (lists element)
    ∙ one_more (models_on element (take i models)) model (element == model.element)
    ∙ sym (ap (models_on element) front ∙ filter-append (λ m. element == m.element) (take i models) (model ∷ []))

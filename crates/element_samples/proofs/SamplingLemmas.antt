-- Looking for the value that counts, model by model.
use Rattle.std.proofs.Common.{◌≡◌, ℕ, Bool, true, false, cond, ◌+◌, ◌<◌, ◌≤◌, List, [], ◌∷◌, length, drop, filter, Option, Some, None, refl, sym, ap, ◌∙◌}
use Rattle.std.specs.Prelude.{filter_map, fold, option_map, slice_get, slice_index_or}
use Rattle.std.specs.List.{cons_option}
use Rattle.std.proofs.lemmas.List.{drop_all, drop_more}
use Rattle.anim_names.specs.declared.property.Property.{Property}
use Rattle.keyframe_model.specs.Models.{Spec, PropertyValue}
use Rattle.tree_commit.specs.declared.shown.Shown.{Shown}
use Rattle.tree_commit.specs.Trees.{Look, TreeLists}
use Rattle.run_rules.specs.Frames.{Given, animated_value, animates, given_by, later_of, show}
use Rattle.element_samples.specs.Samples.{beside, best_with}
use Rattle.tree_commit.proofs.Among.{drop-found}

-- what counts once these models were looked at, one behind the other
abbrev pub best_of_all : TreeLists → (ℕ → Option Shown) → ℕ → ℕ → Property → Option Given → List Spec → Option Given
best_of_all tree shown tick element property best models =
    fold later_of best (filter_map (λ model. given_by tree tick model (shown model.id)) (filter (animates element property) models))

taken : (best new : Option Given) (others : List Given) → fold later_of best (cons_option new others) ≡ fold later_of (beside best new) others
taken best None others = refl
taken best (Some new) others = refl

looked_at : (tree : TreeLists) (shown : ℕ → Option Shown) (tick : ℕ) (best : Option Given) (model : Spec) (models : List Spec) (is_one : Bool)
    → fold later_of best (filter_map (λ m. given_by tree tick m (shown m.id)) (cond is_one (model ∷ models) models))
    ≡ fold later_of (cond is_one (beside best (given_by tree tick model (shown model.id))) best) (filter_map (λ m. given_by tree tick m (shown m.id)) models)
looked_at tree shown tick best model models true =
    taken best (given_by tree tick model (shown model.id)) (filter_map (λ m. given_by tree tick m (shown m.id)) models)
looked_at tree shown tick best model models false = refl

-- one more model is looked at
pub best_of_all-cons : (tree : TreeLists) (shown : ℕ → Option Shown) (tick element : ℕ) (property : Property) (best : Option Given) (model : Spec) (models : List Spec)
    → best_of_all tree shown tick element property best (model ∷ models)
    ≡ best_of_all tree shown tick element property (best_with tree shown tick element property best model) models
best_of_all-cons tree shown tick element property best model models =
    looked_at tree shown tick best model (filter (animates element property) models) (animates element property model)

-- the model at an index was looked at, and those behind it are left
pub best-next : (tree : TreeLists) (shown : ℕ → Option Shown) (tick element : ℕ) (property : Property) (best new all : Option Given) (models : List Spec) (i : ℕ) (model : Spec)
    → slice_get models i ≡ Some model
    → new ≡ best_with tree shown tick element property best model
    → best_of_all tree shown tick element property best (drop i models) ≡ all
    → best_of_all tree shown tick element property new (drop (i + 1) models) ≡ all
best-next tree shown tick element property best new all models i model found is so_far =
    ap (λ b. best_of_all tree shown tick element property b (drop (i + 1) models)) is
    ∙ sym (best_of_all-cons tree shown tick element property best model (drop (i + 1) models))
    ∙ ap (λ left. best_of_all tree shown tick element property best left) (sym (drop-found models i model found))
    ∙ so_far

-- once no model is left, what counts is the definition's
pub best-last : (tree : TreeLists) (shown : ℕ → Option Shown) (tick element : ℕ) (property : Property) (best : Option Given) (i : ℕ)
    → length tree.models ≤ i
    → best_of_all tree shown tick element property best (drop i tree.models) ≡ best_of_all tree shown tick element property None tree.models
    → option_map (λ given. given.value) best ≡ animated_value tree shown tick element property
unfolding animated_value
best-last tree shown tick element property best i past so_far =
    ap (option_map (λ given. given.value))
    (ap (λ left. best_of_all tree shown tick element property best left) (sym (drop_all i tree.models past)) ∙ so_far)

-- ---- what an element shows, property by property

-- the look with the animated values of these properties in the place of its own
abbrev pub shown_after : (Property → Option PropertyValue) → Look → List Property → Look
shown_after animated look properties = fold (λ look property. show look (animated property)) look properties

-- one more property was looked at, in a list that is not empty
pub shown-next : (animated : Property → Option PropertyValue) (so_far new all : Look) (properties : List Property) (i : ℕ) (first : Property)
    → i < length properties
    → new ≡ show so_far (animated (slice_index_or properties i first))
    → shown_after animated so_far (drop i properties) ≡ all
    → shown_after animated new (drop (i + 1) properties) ≡ all
shown-next animated so_far new all properties i first within is rest =
    ap (λ look. shown_after animated look (drop (i + 1) properties)) is
    ∙ ap (shown_after animated so_far) (sym (drop_more properties i first within))
    ∙ rest

-- all were looked at
pub shown-last : (animated : Property → Option PropertyValue) (so_far all : Look) (properties : List Property) (i : ℕ)
    → length properties ≤ i
    → shown_after animated so_far (drop i properties) ≡ all
    → so_far ≡ all
shown-last animated so_far all properties i past rest =
    ap (shown_after animated so_far) (sym (drop_all i properties past)) ∙ rest

-- what is shown depends on the animated values alone
pub shown_after-same : (one other : Property → Option PropertyValue) → ((property : Property) → one property ≡ other property)
    → (look : Look) (properties : List Property) → shown_after one look properties ≡ shown_after other look properties
shown_after-same one other same look [] = refl
shown_after-same one other same look (property ∷ properties) =
    ap (λ animated. shown_after one (show look animated) properties) (same property)
    ∙ shown_after-same one other same (show look (other property)) properties

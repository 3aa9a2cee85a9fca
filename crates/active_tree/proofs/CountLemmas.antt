-- Looking at the models of an element is looking at all models of the commit.
use Rattle.std.proofs.Common.{◌≡◌, ℕ, ◌+◌, ◌≤◌, ◌==◌, ◌&&◌, true, false, cond, if◌then◌else◌, List, [], ◌∷◌, ◌++◌, length, take, Option, Some, None, refl, sym, ap, subst, ◌∙◌}
use Rattle.std.specs.Prelude.{fold, option_map, slice_get}
use Rattle.std.specs.List.{All}
use Rattle.std.proofs.lemmas.List.{take_all, take_more}
use Rattle.std.proofs.lemmas.List.Elements.{All-filter}
use Rattle.std.proofs.lemmas.List.Sums.{fold-append}
use Rattle.std.proofs.lemmas.Option.{slice_get_within, get_or_from_slice_get}
use Rattle.anim_names.specs.declared.property.Property.{Property}
use Rattle.anim_names.specs.Properties.{is_property}
use Rattle.keyframe_model.specs.Models.{Spec, property_of}
use Rattle.tree_commit.specs.declared.shown.Shown.{Shown}
use Rattle.tree_commit.specs.Trees.{TreeLists}
use Rattle.run_rules.specs.Frames.{Given, animated_value, given_by}
use Rattle.element_samples.specs.Samples.{beside}
use Rattle.element_samples.proofs.SamplingLemmas.{best_of_all, best_of_all-cons}
use Rattle.active_tree.specs.ElementModels.{models_on}
use Rattle.active_tree.specs.Samples.{counts_of, counts_with}

-- what is true of all models is true of those of an element
pub all-on : (P : Spec → Type 0) (element : ℕ) (models list : List Spec) → list ≡ models_on element models → All P models → All P list
all-on P element models list is all = subst (All P) (sym is) (All-filter (λ m. element == m.element) P models all)

module _ (tree : TreeLists) (shown : ℕ → Option Shown) (tick : ℕ) where
  -- the model at an index was looked at
  pub counts-more : (property : Property) (models : List Spec) (i : ℕ) (model : Spec) (best new : Option Given)
      → slice_get models i ≡ Some model
      → new ≡ counts_with tree shown tick property best model
      → best ≡ counts_of tree shown tick property (take i models)
      → new ≡ counts_of tree shown tick property (take (i + 1) models)
  counts-more property models i model best new found is so_far =
      let front : take (i + 1) models ≡ take i models ++ model ∷ [] =
      take_more models i model (slice_get_within models i model found)
      ∙ ap (λ x. take i models ++ x ∷ []) (get_or_from_slice_get models i model model found) in
      is
      ∙ ap (λ b. counts_with tree shown tick property b model) so_far
      ∙ sym (ap (counts_of tree shown tick property) front
      ∙ fold-append (counts_with tree shown tick property) None (take i models) (model ∷ []))

  -- all models were looked at
  pub counts-last : (property : Property) (models : List Spec) (i : ℕ) (best : Option Given)
      → length models ≤ i
      → best ≡ counts_of tree shown tick property (take i models)
      → best ≡ counts_of tree shown tick property models
  counts-last property models i best past so_far =
      so_far ∙ ap (counts_of tree shown tick property) (take_all i models past)

  -- other elements' models make no difference
  all-count : (element : ℕ) (property : Property) (best : Option Given) (models : List Spec)
      → fold (counts_with tree shown tick property) best (models_on element models)
      ≡ best_of_all tree shown tick element property best models
  all-count element property best [] = refl
  all-count element property best (model ∷ models) =
      elim (element == model.element) as (λ b.
      fold (counts_with tree shown tick property) best (cond b (model ∷ models_on element models) (models_on element models))
      ≡ best_of_all tree shown tick element property (if b && is_property property (property_of model) then beside best (given_by tree tick model (shown model.id)) else best) models) [
        | true ↦ all-count element property (counts_with tree shown tick property best model) models
        | false ↦ all-count element property best models
      ]
      ∙ sym (best_of_all-cons tree shown tick element property best model models)

  -- what counts among the element's models is the animated value
  pub animated-counts : (element : ℕ) (property : Property) (list : List Spec) (best : Option Given)
      → list ≡ models_on element tree.models
      → best ≡ counts_of tree shown tick property list
      → option_map (λ given. given.value) best ≡ animated_value tree shown tick element property
  unfolding animated_value
  animated-counts element property list best is_list is =
      ap (option_map (λ given. given.value))
      (is ∙ ap (counts_of tree shown tick property) is_list ∙ all-count element property None tree.models)

-- When an edit is not refused, and what is found in the groups after one.
use Rattle.std.proofs.Common.{◌≡◌, ℕ, ◌<◌, ◌≤◌, true, false, ◌||◌, cond, eqb, leb, ltb, List, [], ◌∷◌, length, Some, None, refl, ap, sym, ◌∙◌}
use Rattle.std.specs.Prelude.{find, if◌then◌else◌}
use Rattle.std.proofs.lemmas.Bool.{eqb-true, eq-eqb, lt-leb, le-ltb}
use Rattle.anim_names.specs.declared.limit.TheConstants.{MOST_ELEMENTS, MOST_MODELS}
use Rattle.keyframe_model.specs.Models.{Spec, property_of}
use Rattle.tree_commit.specs.Trees.{Look}
use Rattle.tree_commit.specs.Edits.{Book, GroupParts, AddElement, RemoveElement, AddModel, RemoveModel, is_in, without, is_mixed, parts_of, edit_refusal, model_refusal, new_parts, with_property, with_member, OnElements, OnModels}

-- ---- edits that are not refused

pub element_taken : (book : Book) (id : ℕ) (look : Look) → is_in id book.elements ≡ false → book.elements_added < MOST_ELEMENTS
    → edit_refusal book (OnElements (AddElement id look)) ≡ None
unfolding edit_refusal
element_taken book id look new few =
    let few_so : leb MOST_ELEMENTS book.elements_added ≡ false = lt-leb _ _ few in
    rw (new, few_so) refl

pub removal_taken : (book : Book) (id : ℕ) → is_in id book.elements ≡ true → edit_refusal book (OnElements (RemoveElement id)) ≡ None
unfolding edit_refusal
removal_taken book id there = rw there refl

pub model_removal_taken : (book : Book) (id : ℕ) → is_in id book.models ≡ true → edit_refusal book (OnModels (RemoveModel id)) ≡ None
unfolding edit_refusal
model_removal_taken book id there = rw there refl

-- a model of an id of its own, on a timeline that is there, where there are few enough
pub record IsNew (book : Book) (model : Spec) : Type 0 where
  pub id : is_in model.id book.models ≡ false
  pub timeline : is_in model.timeline book.timelines ≡ true
  pub few : length book.models < MOST_MODELS

-- the first one of its group
pub first_taken : (book : Book) (model : Spec) → IsNew book model → parts_of book model.group ≡ None → edit_refusal book (OnModels (AddModel model)) ≡ None
unfolding edit_refusal model_refusal
first_taken book model new alone =
    let few_so : leb MOST_MODELS (length book.models) ≡ false = lt-leb _ _ new.few in
    rw (new.id, new.timeline, alone, few_so) refl

-- a further one
pub further_taken : (book : Book) (model : Spec) (parts : GroupParts) → IsNew book model → parts_of book model.group ≡ Some parts
    → book.commits ≤ parts.commits_before
    → is_mixed model.element model.timeline model.start (property_of model) (Some parts) ≡ false
    → edit_refusal book (OnModels (AddModel model)) ≡ None
unfolding edit_refusal model_refusal
further_taken book model parts new found before fits =
    let few_so : leb MOST_MODELS (length book.models) ≡ false = lt-leb _ _ new.few in
    let open_so : ltb parts.commits_before book.commits ≡ false = le-ltb _ _ before in
    rw (new.id, new.timeline, found, open_so, fits, few_so) refl

-- ---- groups with one more model

-- any other group is found as before
pub with_member-other : (group commits : ℕ) (model : Spec) (groups : List GroupParts) → eqb group model.group ≡ false
    → find (λ parts. eqb group parts.group) (with_member commits model groups) ≡ find (λ parts. eqb group parts.group) groups
with_member-other group commits model [] other = rw other refl
with_member-other group commits model (parts ∷ others) other =
    elim (eqb model.group parts.group) as (λ b.
    eqb model.group parts.group ≡ b
    → find (λ it. eqb group it.group) (if b then with_property (property_of model) parts ∷ others else parts ∷ with_member commits model others)
    ≡ find (λ it. eqb group it.group) (parts ∷ others)) [
      | true ↦ λ same.
          let e : model.group ≡ parts.group = eqb-true _ _ same in
          let apart : eqb group parts.group ≡ false = ap (λ g. eqb group g) (sym e) ∙ other in
          rw apart refl
      | false ↦ λ _. ap (λ rest. cond (eqb group parts.group) (Some parts) rest) (with_member-other group commits model others other)
    ] refl

-- a first model makes a group
pub with_member-new : (commits : ℕ) (model : Spec) (groups : List GroupParts) → find (λ parts. eqb model.group parts.group) groups ≡ None
    → find (λ parts. eqb model.group parts.group) (with_member commits model groups) ≡ Some (new_parts commits model)
with_member-new commits model [] = λ none. let same : eqb model.group model.group ≡ true = eq-eqb _ _ refl in rw same refl
with_member-new commits model (parts ∷ others) =
    elim (eqb model.group parts.group) as (λ b.
    eqb model.group parts.group ≡ b
    → cond b (Some parts) (find (λ it. eqb model.group it.group) others) ≡ None
    → find (λ it. eqb model.group it.group) (if b then with_property (property_of model) parts ∷ others else parts ∷ with_member commits model others)
    ≡ Some (new_parts commits model)) [
      | true ↦ λ _ none. absurd cc
      | false ↦ λ apart none. rw apart (with_member-new commits model others none)
    ] refl

-- ---- elements without one

pub is_in-without : (id gone : ℕ) (ids : List ℕ) → eqb id gone ≡ false → is_in id (without (λ other. eqb gone other) ids) ≡ is_in id ids
is_in-without id gone [] other = refl
is_in-without id gone (x ∷ xs) other =
    elim (eqb gone x) as (λ b.
    eqb gone x ≡ b → is_in id (if b then xs else x ∷ without (λ it. eqb gone it) xs) ≡ is_in id (x ∷ xs)) [
      | true ↦ λ same.
          let e : gone ≡ x = eqb-true _ _ same in
          let apart : eqb id x ≡ false = ap (λ it. eqb id it) (sym e) ∙ other in
          rw apart refl
      | false ↦ λ _. ap (λ rest. eqb id x || rest) (is_in-without id gone xs other)
    ] refl

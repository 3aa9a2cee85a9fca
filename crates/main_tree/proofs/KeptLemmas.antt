-- Whatever edit is made, the tree and its book go together.
use Rattle.std.proofs.Common.{◌≡◌, ℕ, ◌==◌, nat_eq, Bool, true, false, not, ◌||◌, if◌then◌else◌, IsTrue, List, [], ◌∷◌, ◌++◌, map, All, None, refl, sym, ap, ◌∙◌, arith}
use Rattle.std.specs.List.{list_any}
use Rattle.std.proofs.lemmas.List.{map-append}
use Rattle.std.proofs.lemmas.List.Elements.{All-cons, All-head, All-tail, All-push, All-weaker}
use Rattle.std.proofs.lemmas.List.Folds.{list_any-append}
use Rattle.keyframe_model.specs.Models.{Spec, PropertyValue}
use Rattle.tree_commit.specs.Trees.{Clock, Look, set_own}
use Rattle.tree_commit.specs.Edits.{Change, ElementChange, ModelChange, TimelineChange, OnElements, OnTimelines, OnModels, AddElement, RemoveElement, SetOwn, AddTimeline, AddModel, RemoveModel, edit_refusal, is_in, without, tree_after, book_after, finds_its_model, finds_its_target}
use Rattle.tree_commit.specs.Tables.{has_timeline}
use Rattle.tree_commit.proofs.BookLemmas.{known_timeline}
use Rattle.main_tree.specs.EditedTrees.{EditedTree, GoesWithBook, after_edit}
use Rattle.std.proofs.lemmas.Bool.{not-false}
use Rattle.tree_commit.proofs.TableLemmas.{list_any-map, map-with_look}

-- ---- lists

-- what is among some is among more
list_any-push : {A : Type 0} (test : A → Bool) (xs : List A) (x : A) → list_any test xs ≡ true → list_any test (xs ++ x ∷ []) ≡ true
list_any-push test xs x h = list_any-append test xs (x ∷ []) ∙ ap (λ b. b || list_any test (x ∷ [])) h

-- without the one of an id, and then the ids, or the other way round
map-without : {A : Type 0} (id_of : A → ℕ) (id : ℕ) (xs : List A)
    → map id_of (without (λ x. id == id_of x) xs) ≡ without (λ other. id == other) (map id_of xs)
map-without id_of id [] = refl
map-without id_of id (x ∷ xs) =
    elim (nat_eq id (id_of x)) as (λ b.
    map id_of (if b then xs else x ∷ without (λ x. id == id_of x) xs)
    ≡ (if b then map id_of xs else id_of x ∷ without (λ other. id == other) (map id_of xs)))
    [ true ↦ refl | false ↦ ap (λ ids. id_of x ∷ ids) (map-without id_of id xs) ]

-- what is true of all is true of those that are left
All-without : {A : Type 0} (P : A → Type 0) (test : A → Bool) (xs : List A) → All P xs → All P (without test xs)
All-without P test [] h = h
All-without P test (x ∷ xs) h =
    elim (test x) as (λ b. All P (if b then xs else x ∷ without test xs)) [
      | true ↦ All-tail P x xs h
      | false ↦ All-cons P x (without test xs) (All-head P x xs h) (All-without P test xs (All-tail P x xs h))
    ]

-- where none passes the test, nothing goes
without-none : {A : Type 0} (test : A → Bool) (xs : List A) → list_any test xs ≡ false → without test xs ≡ xs
without-none test [] = λ none. refl
without-none test (x ∷ xs) =
    elim (test x) as (λ b. (b || list_any test xs) ≡ false → (if b then xs else x ∷ without test xs) ≡ x ∷ xs)
    [ true ↦ λ none. cc | false ↦ λ none. ap (λ rest. x ∷ rest) (without-none test xs none) ]

-- an id that is pushed is there
is_in-push : (ids : List ℕ) (id : ℕ) → is_in id (ids ++ id ∷ []) ≡ true
is_in-push [] id = grind arith
is_in-push (other ∷ ids) id =
    elim (nat_eq id other) as (λ b. (b || is_in id (ids ++ id ∷ [])) ≡ true) [ true ↦ refl | false ↦ is_in-push ids id ]

-- ---- one edit

module _ (edited : EditedTree) (goes : GoesWithBook edited) where
  with_element : (id : ℕ) (look : Look) → GoesWithBook (after_edit edited (OnElements (AddElement id look)))
  unfolding tree_after book_after
  with_element id look = record {
    elements =
        ap (λ ids. ids ++ id ∷ []) goes.elements
        ∙ sym (map-append (λ element. element.id) edited.tree.elements (record { id = id; look = look } ∷ []));
    timelines = goes.timelines;
    models_added = goes.models_added;
    timelines_there = goes.timelines_there;
  }

  without_element : (id : ℕ) → GoesWithBook (after_edit edited (OnElements (RemoveElement id)))
  unfolding tree_after book_after
  without_element id = record {
    elements =
        ap (without (λ other. id == other)) goes.elements
        ∙ sym (map-without (λ element. element.id) id edited.tree.elements);
    timelines = goes.timelines;
    models_added = goes.models_added;
    timelines_there = goes.timelines_there;
  }

  with_own : (id : ℕ) (value : PropertyValue) → GoesWithBook (after_edit edited (OnElements (SetOwn id value)))
  unfolding tree_after book_after
  with_own id value = record {
    elements = goes.elements ∙ sym (map-with_look id (λ look. set_own look value) edited.tree.elements);
    timelines = goes.timelines;
    models_added = goes.models_added;
    timelines_there = goes.timelines_there;
  }

  with_timeline : (id origin : ℕ) → GoesWithBook (after_edit edited (OnTimelines (AddTimeline id origin)))
  unfolding tree_after book_after
  with_timeline id origin =
      let clock : Clock = record { id = id; origin = origin } in
      record {
        elements = goes.elements;
        timelines =
            ap (λ ids. ids ++ id ∷ []) goes.timelines
            ∙ sym (map-append (λ clock. clock.id) edited.tree.timelines (clock ∷ []));
        models_added = goes.models_added;
        timelines_there =
            All-weaker (λ model. IsTrue (has_timeline edited.tree model.timeline)) _
            (λ model there. list_any-push (λ clock. model.timeline == clock.id) edited.tree.timelines clock there)
            edited.tree.models goes.timelines_there;
      }

  -- a timeline of the book is in the tree
  there_by_book : (id : ℕ) → not (is_in id edited.book.timelines) ≡ false → IsTrue (has_timeline edited.tree id)
  there_by_book id known =
      sym (list_any-map (λ clock. clock.id) (λ other. id == other) edited.tree.timelines)
      ∙ sym (ap (is_in id) goes.timelines)
      ∙ not-false (is_in id edited.book.timelines) known

  with_model : (model : Spec) → edit_refusal edited.book (OnModels (AddModel model)) ≡ None → GoesWithBook (after_edit edited (OnModels (AddModel model)))
  unfolding tree_after book_after
  with_model model allowed = record {
    elements = goes.elements;
    timelines = goes.timelines;
    models_added =
        All-push (λ other. IsTrue (is_in other.id (edited.book.models ++ model.id ∷ []))) edited.tree.models model
        (All-weaker (λ other. IsTrue (is_in other.id edited.book.models)) _
        (λ other there. list_any-push (λ id. other.id == id) edited.book.models model.id there)
        edited.tree.models goes.models_added)
        (is_in-push edited.book.models model.id);
    timelines_there =
        All-push (λ other. IsTrue (has_timeline edited.tree other.timeline)) edited.tree.models model goes.timelines_there
        (there_by_book model.timeline (known_timeline edited.book model allowed));
  }

  without_model : (id : ℕ) → GoesWithBook (after_edit edited (OnModels (RemoveModel id)))
  unfolding tree_after book_after
  without_model id = record {
    elements = goes.elements;
    timelines = goes.timelines;
    models_added = All-without (λ model. IsTrue (is_in model.id edited.book.models)) (λ model. id == model.id) edited.tree.models goes.models_added;
    timelines_there = All-without (λ model. IsTrue (has_timeline edited.tree model.timeline)) (λ model. id == model.id) edited.tree.models goes.timelines_there;
  }

  elements_kept : (change : ElementChange) → GoesWithBook (after_edit edited (OnElements change))
  elements_kept (AddElement id look) = with_element id look
  elements_kept (RemoveElement id) = without_element id
  elements_kept (SetOwn id value) = with_own id value

  timelines_kept : (change : TimelineChange) → GoesWithBook (after_edit edited (OnTimelines change))
  timelines_kept (AddTimeline id origin) = with_timeline id origin

  models_kept : (change : ModelChange) → edit_refusal edited.book (OnModels change) ≡ None → GoesWithBook (after_edit edited (OnModels change))
  models_kept (AddModel model) allowed = with_model model allowed
  models_kept (RemoveModel id) allowed = without_model id

  -- whichever it is
  pub kept_by_edit : (change : Change) → edit_refusal edited.book change ≡ None → GoesWithBook (after_edit edited change)
  kept_by_edit (OnElements change) allowed = elements_kept change
  kept_by_edit (OnTimelines change) allowed = timelines_kept change
  kept_by_edit (OnModels change) allowed = models_kept change allowed

-- a change of the models that does not find what it is about changes nothing
models_after-lost : (edited : EditedTree) (change : ModelChange) → finds_its_model edited.tree change ≡ false → after_edit edited (OnModels change) ≡ edited
unfolding tree_after book_after
models_after-lost edited (AddModel model) lost = cc
models_after-lost edited (RemoveModel id) lost = λ i. record edited {
  tree = record edited.tree { models = without-none (λ model. id == model.id) edited.tree.models lost i };
}

-- an edit that does not find what it is about changes nothing
pub after_edit-lost : (edited : EditedTree) (change : Change) → finds_its_target edited.tree change ≡ false → after_edit edited change ≡ edited
after_edit-lost edited (OnElements change) lost = cc
after_edit-lost edited (OnTimelines change) lost = cc
after_edit-lost edited (OnModels change) lost = models_after-lost edited change lost

-- What each change of the tables makes of the tree and its book.
use Rattle.std.proofs.Common.{◌≡◌, ℕ, ◌==◌, nat_eq, false, List, [], ◌∷◌, ◌++◌, map, None, sym, ap, subst, ◌∙◌}
use Rattle.std.specs.Map.{remove_entry}
use Rattle.std.specs.declared.alloc.Global.{Global}
use Rattle.std.specs.declared.sync.Arc.{Arc}
use Rattle.indexmap.specs.IndexMap.{insert_entry}
use Rattle.keyframe_model.specs.Models.{Spec, PropertyValue}
use Rattle.tree_commit.specs.declared.base.Base.{Base}
use Rattle.tree_commit.specs.Trees.{Look, set_own}
use Rattle.tree_commit.specs.Edits.{Change, OnElements, OnTimelines, OnModels, AddElement, RemoveElement, SetOwn, AddTimeline, AddModel, RemoveModel, Book, with_look, without, edit_refusal, is_in, tree_after, book_after}
use Rattle.tree_commit.specs.Tables.{element_of, spec_of, clock_of, StandUnderOwnIds}
use Rattle.tree_commit.specs.Views.{look_of}
use Rattle.tree_commit.proofs.BookLemmas.{no_reason, unused_id}
use Rattle.main_tree.specs.EditedTrees.{EditedTree, GoesWithBook, after_edit, edited_tables}
use Rattle.main_tree.proofs.KeptLemmas.{kept_by_edit}
use Rattle.main_tree.proofs.TableEdits.{ids_of, ids-element_of, ids-clock_of, map-insert_entry, map-remove_entry, own_ids-insert_entry, absent_model}

-- what an edit makes of a tree and its book goes together again
pub goes_after : (old new : EditedTree) (change : Change) → new ≡ after_edit old change → edit_refusal old.book change ≡ None → GoesWithBook old → GoesWithBook new
goes_after old new change made allowed goes = subst GoesWithBook (sym made) (kept_by_edit old goes change allowed)

module _ (book : Book) (elements : List (ℕ × Base)) (models : List (ℕ × Arc Spec Global)) (timelines : List (ℕ × ℕ))
    (goes : GoesWithBook (edited_tables book elements models timelines)) where
  element_added' : (id : ℕ) (look : Look) (base : Base) → edit_refusal book (OnElements (AddElement id look)) ≡ None → look_of base ≡ look
      → edited_tables (book_after book (OnElements (AddElement id look))) (insert_entry nat_eq elements id base) models timelines
      ≡ after_edit (edited_tables book elements models timelines) (OnElements (AddElement id look))
  unfolding tree_after edit_refusal
  element_added' id look base allowed looks =
      let absent : is_in id (ids_of elements) ≡ false =
      ap (is_in id) (ids-element_of elements) ∙ sym (ap (is_in id) goes.elements) ∙ (no_reason _ _ _ allowed).0 in
      let made : map element_of (insert_entry nat_eq elements id base) ≡ map element_of elements ++ record { id = id; look = look } ∷ [] =
      map-insert_entry element_of elements id base absent
      ∙ (λ i. map element_of elements ++ record { id = id; look = looks i } ∷ []) in
      λ i. record {
        tree = record { elements = made i; models = map spec_of models; timelines = map clock_of timelines };
        book = book_after book (OnElements (AddElement id look));
      }

  pub element_added : (id : ℕ) (look : Look) (base : Base) (change : Change) (book' : Book) (elements' : List (ℕ × Base))
      → change ≡ OnElements (AddElement id look) → edit_refusal book change ≡ None → look_of base ≡ look
      → book' ≡ book_after book change → elements' ≡ insert_entry nat_eq elements id base
      → edited_tables book' elements' models timelines ≡ after_edit (edited_tables book elements models timelines) change
  element_added id look base change book' elements' is_this allowed looks booked inserted =
      (λ i. edited_tables ((booked ∙ ap (book_after book) is_this) i) (inserted i) models timelines)
      ∙ element_added' id look base (sym (ap (edit_refusal book) is_this) ∙ allowed) looks
      ∙ sym (ap (after_edit (edited_tables book elements models timelines)) is_this)

  pub element_removed : (id : ℕ) (change : Change) (book' : Book) (elements' : List (ℕ × Base))
      → change ≡ OnElements (RemoveElement id) → book' ≡ book_after book change
      → map element_of elements' ≡ without (λ element. id == element.id) (map element_of elements)
      → edited_tables book' elements' models timelines ≡ after_edit (edited_tables book elements models timelines) change
  unfolding tree_after
  element_removed id change book' elements' is_this booked made =
      (λ i. record {
        tree = record { elements = made i; models = map spec_of models; timelines = map clock_of timelines };
        book = (booked ∙ ap (book_after book) is_this) i;
      })
      ∙ sym (ap (after_edit (edited_tables book elements models timelines)) is_this)

  pub own_set : (id : ℕ) (value : PropertyValue) (elements' : List (ℕ × Base))
      → map element_of elements' ≡ with_look id (λ look. set_own look value) (map element_of elements)
      → edited_tables book elements' models timelines ≡ after_edit (edited_tables book elements models timelines) (OnElements (SetOwn id value))
  unfolding tree_after book_after
  own_set id value elements' made = λ i. record {
    tree = record { elements = made i; models = map spec_of models; timelines = map clock_of timelines };
    book = book;
  }

  timeline_added' : (id origin : ℕ) → edit_refusal book (OnTimelines (AddTimeline id origin)) ≡ None
      → edited_tables (book_after book (OnTimelines (AddTimeline id origin))) elements models (insert_entry nat_eq timelines id origin)
      ≡ after_edit (edited_tables book elements models timelines) (OnTimelines (AddTimeline id origin))
  unfolding tree_after edit_refusal
  timeline_added' id origin allowed =
      let absent : is_in id (ids_of timelines) ≡ false =
      ap (is_in id) (ids-clock_of timelines) ∙ sym (ap (is_in id) goes.timelines) ∙ (no_reason _ _ _ allowed).0 in
      let made = map-insert_entry clock_of timelines id origin absent in
      λ i. record {
        tree = record { elements = map element_of elements; models = map spec_of models; timelines = made i };
        book = book_after book (OnTimelines (AddTimeline id origin));
      }

  pub timeline_added : (id origin : ℕ) (change : Change) (book' : Book) (timelines' : List (ℕ × ℕ))
      → change ≡ OnTimelines (AddTimeline id origin) → edit_refusal book change ≡ None
      → book' ≡ book_after book change → timelines' ≡ insert_entry nat_eq timelines id origin
      → edited_tables book' elements models timelines' ≡ after_edit (edited_tables book elements models timelines) change
  timeline_added id origin change book' timelines' is_this allowed booked inserted =
      (λ i. edited_tables ((booked ∙ ap (book_after book) is_this) i) elements models (inserted i))
      ∙ timeline_added' id origin (sym (ap (edit_refusal book) is_this) ∙ allowed)
      ∙ sym (ap (after_edit (edited_tables book elements models timelines)) is_this)

  module _ (own : StandUnderOwnIds models) where
    -- a model that may be added is not in the table
    pub new_model : (model : Spec) → edit_refusal book (OnModels (AddModel model)) ≡ None → is_in model.id (ids_of models) ≡ false
    new_model model allowed =
        ap (is_in model.id) own ∙ absent_model model.id book.models (map spec_of models) goes.models_added (unused_id book model allowed)

    model_added' : (spec model : Arc Spec Global) → edit_refusal book (OnModels (AddModel spec.value)) ≡ None → model.value ≡ spec.value
        → edited_tables (book_after book (OnModels (AddModel spec.value))) elements (insert_entry nat_eq models spec.value.id model) timelines
        ≡ after_edit (edited_tables book elements models timelines) (OnModels (AddModel spec.value))
    unfolding tree_after
    model_added' spec model allowed same =
        let made : map spec_of (insert_entry nat_eq models spec.value.id model) ≡ map spec_of models ++ spec.value ∷ [] =
        map-insert_entry spec_of models spec.value.id model (new_model spec.value allowed)
        ∙ (λ i. map spec_of models ++ same i ∷ []) in
        λ i. record {
          tree = record { elements = map element_of elements; models = made i; timelines = map clock_of timelines };
          book = book_after book (OnModels (AddModel spec.value));
        }

    pub model_added : (spec model : Arc Spec Global) (change : Change) (book' : Book) (models' : List (ℕ × Arc Spec Global))
        → change ≡ OnModels (AddModel spec.value) → edit_refusal book change ≡ None → model.value ≡ spec.value
        → book' ≡ book_after book change → models' ≡ insert_entry nat_eq models spec.value.id model
        → edited_tables book' elements models' timelines ≡ after_edit (edited_tables book elements models timelines) change
    model_added spec model change book' models' is_this allowed same booked inserted =
        (λ i. edited_tables ((booked ∙ ap (book_after book) is_this) i) elements (inserted i) timelines)
        ∙ model_added' spec model (sym (ap (edit_refusal book) is_this) ∙ allowed) same
        ∙ sym (ap (after_edit (edited_tables book elements models timelines)) is_this)

    pub own_ids_with : (spec model : Arc Spec Global) (change : Change) (models' : List (ℕ × Arc Spec Global))
        → change ≡ OnModels (AddModel spec.value) → edit_refusal book change ≡ None → model.value ≡ spec.value
        → models' ≡ insert_entry nat_eq models spec.value.id model → StandUnderOwnIds models'
    own_ids_with spec model change models' is_this allowed same inserted =
        subst StandUnderOwnIds (sym inserted)
        (own_ids-insert_entry models spec.value.id model
        (new_model spec.value (sym (ap (edit_refusal book) is_this) ∙ allowed)) (ap (λ (it : Spec). it.id) same) own)

    pub model_removed : (id : ℕ)
        → edited_tables book elements (remove_entry (nat_eq id) models) timelines
        ≡ after_edit (edited_tables book elements models timelines) (OnModels (RemoveModel id))
    unfolding tree_after book_after
    model_removed id =
        let made = map-remove_entry spec_of (λ model. model.id) id models own in
        λ i. record {
          tree = record { elements = map element_of elements; models = made i; timelines = map clock_of timelines };
          book = book;
        }

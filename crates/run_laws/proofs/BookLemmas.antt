-- The book of a script goes together with main's tree.
use Rattle.std.proofs.Common.{◌≡◌, ℕ, ◌+◌, ◌≤◌, ◌<◌, ◌==◌, nat_le, Bool, true, false, ◌||◌, cond, List, [], ◌∷◌, ◌++◌, length, map, refl, sym, ap, ◌∙◌, ◌⊎◌, inl, inr, arith}
use Rattle.std.specs.Prelude.{is_none}
use Rattle.std.specs.List.{list_any}
use Rattle.std.proofs.lemmas.Bool.{leb-false, or_left, or_right, eq-eqb}
use Rattle.std.proofs.lemmas.List.{map-append, length-append, length-map}
use Rattle.std.proofs.lemmas.List.Folds.{list_any-append}
use Rattle.anim_names.specs.declared.limit.TheConstants.{MOST_ELEMENTS, MOST_MODELS, MOST_TIMELINES}
use Rattle.keyframe_model.specs.Models.{Spec}
use Rattle.tree_commit.specs.Trees.{TreeLists, Look}
use Rattle.tree_commit.specs.Edits.{OnModels, OnTimelines, OnElements, Change, AddElement, RemoveElement, AddTimeline, AddModel, RemoveModel, Book, is_in, without, with_look, edit_refusal, book_after, tree_after, SetOwn}
use Rattle.anim_names.specs.Lists.{IsAmong}
use Rattle.run_laws.specs.MainTree.{IsWithinLimits}
use Rattle.tree_commit.proofs.Among.{among-append_cases}
use Rattle.tree_commit.proofs.TableLemmas.{map-with_look}
use Rattle.run_laws.proofs.Births.{accepted, not_refused}
use Rattle.run_laws.proofs.Lines.{IsThin, thin_without}

-- The book names the elements and the timelines of the tree in their order, has the id of each model, and nothing is
-- more than is allowed.
pub record BookFits (book : Book) (tree : TreeLists) : Type 0 where
  pub elements : book.elements ≡ map (λ element. element.id) tree.elements
  pub timelines : book.timelines ≡ map (λ clock. clock.id) tree.timelines
  pub models : (model : Spec) → IsAmong model tree.models → is_in model.id book.models ≡ true
  pub elements_added : length book.elements ≤ book.elements_added
  pub elements_room : book.elements_added ≤ MOST_ELEMENTS
  pub models_added : length tree.models ≤ length book.models
  pub models_room : length book.models ≤ MOST_MODELS
  pub timelines_room : length book.timelines ≤ MOST_TIMELINES

pub within_limits : (book : Book) (tree : TreeLists) → BookFits book tree → IsWithinLimits tree
within_limits book tree h =
    let elements : length tree.elements ≡ length book.elements = sym (length-map tree.elements (λ element. element.id)) ∙ ap length (sym h.elements) in
    let timelines : length tree.timelines ≡ length book.timelines = sym (length-map tree.timelines (λ clock. clock.id)) ∙ ap length (sym h.timelines) in
    record {
      elements = omega (arith, elements, h.elements_added, h.elements_room);
      models = omega (arith, h.models_added, h.models_room);
      timelines = omega (arith, timelines, h.timelines_room);
    }

-- ---- lists of ids

pub any-map : {A B : Type 0} (p : B → Bool) (f : A → B) (xs : List A) → list_any p (map f xs) ≡ list_any (λ x. p (f x)) xs
any-map p f [] = refl
any-map p f (x ∷ xs) = ap (λ found. p (f x) || found) (any-map p f xs)

map-without : {A : Type 0} (f : A → ℕ) (id : ℕ) (xs : List A) → map f (without (λ x. id == f x) xs) ≡ without (λ other. id == other) (map f xs)
map-without f id [] = refl
map-without {A} f id (x ∷ xs) = go (id == f x) (map-without f id xs)
  where
    go : (gone : Bool) → map f (without (λ x. id == f x) xs) ≡ without (λ other. id == other) (map f xs) → map f (cond gone xs (x ∷ without (λ x. id == f x) xs)) ≡ cond gone (map f xs) (f x ∷ without (λ other. id == other) (map f xs))
    go true rest = refl
    go false rest = ap (λ l. f x ∷ l) rest

length-without : {A : Type 0} (p : A → Bool) (xs : List A) → length (without p xs) ≤ length xs
length-without p [] = omega arith
length-without {A} p (x ∷ xs) = go (p x) (length-without p xs)
  where
    go : (gone : Bool) → length (without p xs) ≤ length xs → length (cond gone xs (x ∷ without p xs)) ≤ length (x ∷ xs)
    go true rest = omega arith
    go false rest = omega (arith, rest)

-- ---- each edit keeps it

pub book_thin : (book : Book) (tree thin : TreeLists) → thin.elements ≡ tree.elements → thin.timelines ≡ tree.timelines → IsThin thin.models tree.models → BookFits book tree → BookFits book thin
book_thin book tree thin elements timelines models h = record {
  elements = h.elements ∙ ap (map (λ element. element.id)) (sym elements);
  timelines = h.timelines ∙ ap (map (λ clock. clock.id)) (sym timelines);
  models = λ model a. h.models model (models.among model a);
  elements_added = h.elements_added;
  elements_room = h.elements_room;
  models_added = omega (arith, models.length, h.models_added);
  models_room = h.models_room;
  timelines_room = h.timelines_room;
}

book-look : (book : Book) (tree : TreeLists) (id : ℕ) (change : Look → Look) → BookFits book tree → BookFits book (record tree { elements = with_look id change tree.elements })
book-look book tree id change h = record {
  elements = h.elements ∙ sym (map-with_look id change tree.elements);
  timelines = h.timelines;
  models = h.models;
  elements_added = h.elements_added;
  elements_room = h.elements_room;
  models_added = h.models_added;
  models_room = h.models_room;
  timelines_room = h.timelines_room;
}

book-add_element : (book : Book) (tree : TreeLists) (id : ℕ) (look : Look) → is_none (edit_refusal book (OnElements (AddElement id look))) ≡ true → BookFits book tree → BookFits (book_after book (OnElements (AddElement id look))) (tree_after tree (OnElements (AddElement id look)))
unfolding edit_refusal book_after tree_after
book-add_element book tree id look allowed h =
    let first = not_refused (is_in id book.elements) _ _ allowed in
    let second = not_refused (nat_le MOST_ELEMENTS book.elements_added) _ _ first.1 in
    let room : book.elements_added < MOST_ELEMENTS = leb-false MOST_ELEMENTS book.elements_added second.0 in
    let longer : length (book.elements ++ id ∷ []) ≡ length book.elements + 1 = length-append book.elements (id ∷ []) in
    record {
      elements = ap (λ ids. ids ++ id ∷ []) h.elements ∙ sym (map-append (λ element. element.id) tree.elements _);
      timelines = h.timelines;
      models = h.models;
      elements_added = omega (arith, longer, h.elements_added);
      elements_room = omega (arith, room);
      models_added = h.models_added;
      models_room = h.models_room;
      timelines_room = h.timelines_room;
    }

book-remove_element : (book : Book) (tree : TreeLists) (id : ℕ) → BookFits book tree → BookFits (book_after book (OnElements (RemoveElement id))) (tree_after tree (OnElements (RemoveElement id)))
unfolding book_after tree_after
book-remove_element book tree id h = record {
  elements = ap (without (λ other. id == other)) h.elements ∙ sym (map-without (λ element. element.id) id tree.elements);
  timelines = h.timelines;
  models = h.models;
  elements_added = omega (arith, length-without (λ other. id == other) book.elements, h.elements_added);
  elements_room = h.elements_room;
  models_added = h.models_added;
  models_room = h.models_room;
  timelines_room = h.timelines_room;
}

book-add_timeline : (book : Book) (tree : TreeLists) (id origin : ℕ) → is_none (edit_refusal book (OnTimelines (AddTimeline id origin))) ≡ true → BookFits book tree → BookFits (book_after book (OnTimelines (AddTimeline id origin))) (tree_after tree (OnTimelines (AddTimeline id origin)))
unfolding edit_refusal book_after tree_after
book-add_timeline book tree id origin allowed h =
    let first = not_refused (is_in id book.timelines) _ _ allowed in
    let second = not_refused (nat_le MOST_TIMELINES (length book.timelines)) _ _ first.1 in
    let room : length book.timelines < MOST_TIMELINES = leb-false MOST_TIMELINES (length book.timelines) second.0 in
    let longer : length (book.timelines ++ id ∷ []) ≡ length book.timelines + 1 = length-append book.timelines (id ∷ []) in
    record {
      elements = h.elements;
      timelines = ap (λ ids. ids ++ id ∷ []) h.timelines ∙ sym (map-append (λ clock. clock.id) tree.timelines _);
      models = h.models;
      elements_added = h.elements_added;
      elements_room = h.elements_room;
      models_added = h.models_added;
      models_room = h.models_room;
      timelines_room = omega (arith, longer, room);
    }

book-add_model : (book : Book) (tree : TreeLists) (model : Spec) → is_none (edit_refusal book (OnModels (AddModel model))) ≡ true → BookFits book tree → BookFits (book_after book (OnModels (AddModel model))) (tree_after tree (OnModels (AddModel model)))
unfolding book_after tree_after
book-add_model book tree model allowed h =
    let room : length book.models < MOST_MODELS = leb-false MOST_MODELS (length book.models) (accepted book model allowed).room in
    let longer : length (book.models ++ model.id ∷ []) ≡ length book.models + 1 = length-append book.models (model.id ∷ []) in
    let more : length (tree.models ++ model ∷ []) ≡ length tree.models + 1 = length-append tree.models (model ∷ []) in
    record {
      elements = h.elements;
      timelines = h.timelines;
      models = λ one a. go one (among-append_cases one tree.models (model ∷ []) a);
      elements_added = h.elements_added;
      elements_room = h.elements_room;
      models_added = omega (arith, longer, more, h.models_added);
      models_room = omega (arith, longer, room);
      timelines_room = h.timelines_room;
    }
  where
    in_either : (one : Spec) → (is_in one.id book.models || is_in one.id (model.id ∷ [])) ≡ true → is_in one.id (book.models ++ model.id ∷ []) ≡ true
    in_either one e = list_any-append (λ other. one.id == other) book.models (model.id ∷ []) ∙ e

    go : (one : Spec) → IsAmong one tree.models ⊎ IsAmong one (model ∷ []) → is_in one.id (book.models ++ model.id ∷ []) ≡ true
    go one (inl a) = in_either one (or_left _ _ (h.models one a))
    go one (inr (inl e)) = in_either one (or_right (is_in one.id book.models) _ (or_left (one.id == model.id) false (eq-eqb one.id model.id (ap (λ m. m.id) e))))
    go one (inr (inr a)) = absurd a

pub book_edit : (book : Book) (tree : TreeLists) (change : Change) → is_none (edit_refusal book change) ≡ true → BookFits book tree → BookFits (book_after book change) (tree_after tree change)
unfolding book_after tree_after
book_edit book tree (OnElements (AddElement id look)) allowed h = book-add_element book tree id look allowed h
book_edit book tree (OnElements (RemoveElement id)) allowed h = book-remove_element book tree id h
book_edit book tree (OnElements (SetOwn id value)) allowed h = book-look book tree id _ h
book_edit book tree (OnTimelines (AddTimeline id origin)) allowed h = book-add_timeline book tree id origin allowed h
book_edit book tree (OnModels (AddModel model)) allowed h = book-add_model book tree model allowed h
book_edit book tree (OnModels (RemoveModel id)) allowed h =
    book_thin book tree _ refl refl (thin_without (λ model. id == model.id) tree.models) h

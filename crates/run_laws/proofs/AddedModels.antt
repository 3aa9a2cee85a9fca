-- The models that a script adds, by their ids.
use Rattle.std.proofs.Common.{◌≡◌, ℕ, ◌+◌, ◌<◌, ◌≤◌, ◌==◌, Bool, true, false, ◌||◌, cond, List, [], ◌∷◌, ◌++◌, fold, length, refl, sym, ◌∙◌, subst, ◌⊎◌, inl, inr, arith}
use Rattle.std.specs.Prelude.{is_none}
use Rattle.std.proofs.lemmas.Bool.{false≢true, and_parts, or_left, or_right, leb-false, eqb-true, eq-eqb}
use Rattle.std.proofs.lemmas.List.{length-append}
use Rattle.std.proofs.lemmas.List.Folds.{list_any-append}
use Rattle.anim_names.specs.declared.limit.TheConstants.{MOST_MODELS}
use Rattle.keyframe_model.specs.Models.{Spec}
use Rattle.tree_commit.specs.Edits.{OnModels, OnTimelines, OnElements, Change, AddTimeline, AddModel, RemoveModel, Book, is_in, without, edit_refusal, book_after, book_after_commit}
use Rattle.run_rules.specs.Scripts.{StepOfMain, EditStep, CommitStep, DrainStep, is_allowed, are_allowed, book_after_step}
use Rattle.anim_names.specs.Lists.{AreDistinct, IsAmong}
use Rattle.run_laws.proofs.Births.{Birth, birth, births, births_of-cases, accepted, commits-edit, keeps-elements}

-- ---- ids stay

edit_keeps_id : (book : Book) (change : Change) (id : ℕ) → is_in id book.models ≡ true → is_in id (book_after book change).models ≡ true
unfolding book_after
edit_keeps_id book (OnElements elements) id h = keeps-elements (λ after. is_in id after.models ≡ true) book elements (λ ids added. h)
edit_keeps_id book (OnTimelines (AddTimeline key origin)) id h = h
edit_keeps_id book (OnModels (AddModel model)) id h = list_any-append (λ other. id == other) book.models (model.id ∷ []) ∙ or_left _ _ h
edit_keeps_id book (OnModels (RemoveModel key)) id h = h

steps_keep_id : (book : Book) (steps : List StepOfMain) (id : ℕ) → is_in id book.models ≡ true → is_in id (fold book_after_step book steps).models ≡ true
steps_keep_id book [] id h = h
steps_keep_id book (EditStep change ∷ steps) id h = steps_keep_id (book_after book change) steps id (edit_keeps_id book change id h)
steps_keep_id book (CommitStep ∷ steps) id h = steps_keep_id (book_after_commit book) steps id h
steps_keep_id book (DrainStep ∷ steps) id h = steps_keep_id book steps id h

added_id : (book : Book) (model : Spec) → is_in model.id (book_after book (OnModels (AddModel model))).models ≡ true
unfolding book_after
added_id book model =
    list_any-append (λ other. model.id == other) book.models (model.id ∷ [])
    ∙ or_right (is_in model.id book.models) _ (or_left (model.id == model.id) false (eq-eqb model.id model.id refl))

-- the model of a birth is one that the steps add
pub born_added : (book : Book) (steps : List StepOfMain) (b : Birth) → IsAmong b (births book.commits steps) → is_in b.model.id (fold book_after_step book steps).models ≡ true
born_added book [] b h = absurd h
born_added book (EditStep change ∷ steps) b h =
    go (births_of-cases book.commits change (births book.commits steps) b h)
    (λ behind. born_added (book_after book change) steps b (subst (λ n. IsAmong b (births n steps)) (sym (commits-edit book change)) behind))
  where
    go : ((model : Spec) × (change ≡ OnModels (AddModel model)) × (b ≡ birth model book.commits)) ⊎ IsAmong b (births book.commits steps) → (IsAmong b (births book.commits steps) → is_in b.model.id (fold book_after_step (book_after book change) steps).models ≡ true) → is_in b.model.id (fold book_after_step (book_after book change) steps).models ≡ true
    go (inl (model, same, e)) rest =
        let here : is_in model.id (book_after book change).models ≡ true = subst (λ c. is_in model.id (book_after book c).models ≡ true) (sym same) (added_id book model) in
        steps_keep_id (book_after book change) steps b.model.id (subst (λ x. is_in x.model.id (book_after book change).models ≡ true) (sym e) here)
    go (inr behind) rest = rest behind
born_added book (CommitStep ∷ steps) b h = born_added (book_after_commit book) steps b h
born_added book (DrainStep ∷ steps) b h = born_added book steps b h

-- ---- how many there are

room_edit : (book : Book) (change : Change) → is_none (edit_refusal book change) ≡ true → length book.models ≤ MOST_MODELS → length (book_after book change).models ≤ MOST_MODELS
unfolding book_after
room_edit book (OnElements elements) allowed h = keeps-elements (λ after. length after.models ≤ MOST_MODELS) book elements (λ ids added. h)
room_edit book (OnTimelines (AddTimeline key origin)) allowed h = h
room_edit book (OnModels (AddModel model)) allowed h =
    let room : length book.models < MOST_MODELS = leb-false MOST_MODELS (length book.models) (accepted book model allowed).room in
    let longer : length (book.models ++ model.id ∷ []) ≡ length book.models + 1 = length-append book.models (model.id ∷ []) in
    omega (arith, room, longer)
room_edit book (OnModels (RemoveModel key)) allowed h = h

pub room_steps : (book : Book) (steps : List StepOfMain) → are_allowed book steps ≡ true → length book.models ≤ MOST_MODELS → length (fold book_after_step book steps).models ≤ MOST_MODELS
unfolding are_allowed
room_steps book [] allowed h = h
room_steps book (EditStep change ∷ steps) allowed h =
    let parts : (is_none (edit_refusal book change) ≡ true) × (are_allowed (book_after book change) steps ≡ true) = and_parts _ _ allowed in
    room_steps (book_after book change) steps parts.1 (room_edit book change parts.0 h)
room_steps book (CommitStep ∷ steps) allowed h = room_steps (book_after_commit book) steps (and_parts (is_allowed book CommitStep) _ allowed).1 h
room_steps book (DrainStep ∷ steps) allowed h = room_steps book steps (and_parts true _ allowed).1 h

-- ---- distinct ids of a list

length-without_one : (id : ℕ) (ids : List ℕ) → is_in id ids ≡ true → length (without (λ other. id == other) ids) + 1 ≡ length ids
length-without_one id [] h = absurd (false≢true h)
length-without_one id (x ∷ xs) h = go (id == x) h (length-without_one id xs)
  where
    go : (here : Bool) → (here || is_in id xs) ≡ true → (is_in id xs ≡ true → length (without (λ other. id == other) xs) + 1 ≡ length xs) → length (cond here xs (x ∷ without (λ other. id == other) xs)) + 1 ≡ length (x ∷ xs)
    go true h rest = omega arith
    go false h rest = omega (arith, rest h)

in-without : (id other : ℕ) (ids : List ℕ) → (other ≡ id → ⊥) → is_in other ids ≡ true → is_in other (without (λ x. id == x) ids) ≡ true
in-without id other [] apart h = h
in-without id other (x ∷ xs) apart h = go (id == x) refl (other == x) refl h (in-without id other xs apart)
  where
    go : (here : Bool) → (id == x) ≡ here → (there : Bool) → (other == x) ≡ there → (there || is_in other xs) ≡ true → (is_in other xs ≡ true → is_in other (without (λ x. id == x) xs) ≡ true) → is_in other (cond here xs (x ∷ without (λ x. id == x) xs)) ≡ true
    go true e true f h rest = absurd (apart (eqb-true other x f ∙ sym (eqb-true id x e)))
    go true e false f h rest = h
    go false e true f h rest = or_left (other == x) _ f
    go false e false f h rest = or_right (other == x) _ (rest h)

-- distinct ids that are all in a list are at most as many as it has
pub distinct_within : (ids list : List ℕ) → AreDistinct ids → ((id : ℕ) → IsAmong id ids → is_in id list ≡ true) → length ids ≤ length list
distinct_within [] list distinct within = omega arith
distinct_within (id ∷ ids) list distinct within =
    let fewer = length-without_one id list (within id (inl refl)) in
    let rest = distinct_within ids (without (λ other. id == other) list) distinct.1
    (λ other a. in-without id other list (λ e. distinct.0 (subst (λ x. IsAmong x ids) e a)) (within other (inr a))) in
    omega (arith, fewer, rest)

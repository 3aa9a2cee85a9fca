-- What the look-ups in a commit's tables find, by the lists that the tables stand for.
use Rattle.std.proofs.Common.{◌≡◌, ℕ, ◌+◌, ◌==◌, nat_eq, nat_lt, Bool, true, false, cond, ◌||◌, not, List, [], ◌∷◌, map, find, position, Option, Some, None, is_some, option_map, refl, sym, ap, ◌∙◌}
use Rattle.std.specs.List.{list_any, prefix_len, AllZip}
use Rattle.std.specs.Map.{lookup, keys_of}
use Rattle.std.specs.declared.alloc.Global.{Global}
use Rattle.std.specs.declared.sync.Arc.{Arc}
use Rattle.std.proofs.lemmas.List.{length-map}
use Rattle.std.proofs.lemmas.Map.Made.{is_some-lookup}
use Rattle.keyframe_model.specs.Models.{Spec}
use Rattle.tree_commit.specs.declared.base.Base.{Base}
use Rattle.std.specs.Prelude.{◌-ℤ◌, unwrap_or, if◌then◌else◌}
use Rattle.anim_timeline.specs.Timelines.{timeline_time}
use Rattle.tree_commit.specs.declared.shown.Shown.{Shown}
use Rattle.tree_commit.specs.Trees.{Clock, Element, Look, TreeLists, local_time}
use Rattle.tree_commit.specs.Edits.{with_look}
use Rattle.tree_commit.specs.Tables.{element_of, spec_of, clock_of, tree_of, StandUnderOwnIds}
use Rattle.tree_commit.specs.Views.{look_of}

-- ---- lists

-- a test of what is made of each
pub list_any-map : {A B : Type 0} (f : A → B) (p : B → Bool) (xs : List A) → list_any p (map f xs) ≡ list_any (λ x. p (f x)) xs
list_any-map f p [] = refl
list_any-map f p (x ∷ xs) = ap (λ b. p (f x) || b) (list_any-map f p xs)

map-map : {A B C : Type 0} (g : B → C) (f : A → B) (xs : List A) → map g (map f xs) ≡ map (λ x. g (f x)) xs
map-map g f [] = refl
map-map g f (x ∷ xs) = ap (λ l. g (f x) ∷ l) (map-map g f xs)

prefix_len-map : {A B : Type 0} (f : A → B) (p : B → Bool) (xs : List A)
    → prefix_len p (map f xs) ≡ prefix_len (λ x. p (f x)) xs
prefix_len-map f p [] = refl
prefix_len-map f p (x ∷ xs) = ap (λ n. cond (p (f x)) (1 + n) 0) (prefix_len-map f p xs)

position-map : {A B : Type 0} (f : A → B) (p : B → Bool) (xs : List A) → position p (map f xs) ≡ position (λ x. p (f x)) xs
position-map f p xs =
    let same = prefix_len-map f (λ y. not (p y)) xs in
    λ i. cond (nat_lt (same i) (length-map xs f i)) (Some (same i)) None

map-AllZip : {A B : Type 0} (R : A → A → Type 0) (f : A → B) → ((x y : A) → R x y → f y ≡ f x)
    → (xs ys : List A) → AllZip R xs ys → map f ys ≡ map f xs
map-AllZip R f same [] [] h = refl
map-AllZip R f same [] (y ∷ ys) h = absurd h
map-AllZip R f same (x ∷ xs) [] h = absurd h
map-AllZip R f same (x ∷ xs) (y ∷ ys) h = λ i. same x y h.0 i ∷ map-AllZip R f same xs ys h.1 i

-- a changed look leaves the ids
pub map-with_look : (id : ℕ) (change : Look → Look) (elements : List Element)
    → map (λ element. element.id) (with_look id change elements) ≡ map (λ element. element.id) elements
map-with_look id change [] = refl
map-with_look id change (element ∷ elements) =
    elim (nat_eq id element.id) as (λ b.
    map (λ element. element.id) (if b then record element { look = change element.look } ∷ elements else element ∷ with_look id change elements)
    ≡ map (λ element. element.id) (element ∷ elements))
    [ true ↦ refl | false ↦ ap (λ ids. element.id ∷ ids) (map-with_look id change elements) ]

-- ---- copies

-- the entries of a copy: the same ids, and values that stand for the same
abbrev pub IsCopy : {A : Type 0} → (A → A → Type 0) → List (ℕ × A) → List (ℕ × A) → Type 0
IsCopy same entries copy = AllZip (λ e f. (f.0 ≡ e.0) × same e.1 f.1) entries copy

module _
    (elements elements' : List (ℕ × Base))
    (models models' : List (ℕ × Arc Spec Global))
    (timelines timelines' : List (ℕ × ℕ))
    (of_elements : IsCopy (λ base copy. look_of copy ≡ look_of base) elements elements')
    (of_models : IsCopy (λ model copy. copy.value ≡ model.value) models models')
    (of_timelines : IsCopy (λ origin copy. copy ≡ origin) timelines timelines')
  where
    -- copies of the tables stand for the same tree
    pub tree_of_copies : tree_of elements' models' timelines' ≡ tree_of elements models timelines
    tree_of_copies = λ i. record {
      elements = map-AllZip _ element_of (λ x y r j. record { id = r.0 j; look = r.1 j }) elements elements' of_elements i;
      models = map-AllZip _ spec_of (λ x y r. r.1) models models' of_models i;
      timelines = map-AllZip _ clock_of (λ x y r j. record { id = r.0 j; origin = r.1 j }) timelines timelines' of_timelines i;
    }

    -- and in them each model stands under its own id, where it does in the tables
    pub copies_under_own_ids : StandUnderOwnIds models → StandUnderOwnIds models'
    copies_under_own_ids own =
        map-AllZip _ (λ e. e.0) (λ x y r. r.0) models models' of_models
        ∙ own
        ∙ sym (ap (map (λ model. model.id)) (map-AllZip _ spec_of (λ x y r. r.1) models models' of_models))

-- ---- look-ups

-- a value is there where what is made of it is
pub is_some-option_map : {A B : Type 0} (f : A → B) (o : Option A) → is_some (option_map f o) ≡ is_some o
is_some-option_map f None = refl
is_some-option_map f (Some x) = refl

-- the origin of the first clock, or what the rest gives
first : (b : Bool) (origin id : ℕ) (found : Option ℕ) (clock : Option Clock) → found ≡ option_map (λ clock. clock.origin) clock
    → cond b (Some origin) found ≡ option_map (λ clock. clock.origin) (cond b (Some (record { id = id; origin = origin })) clock)
first true origin id found clock e = refl
first false origin id found clock e = e

module _ (id : ℕ) where
  pub found_element : (elements : List (ℕ × Base))
      → is_some (lookup (nat_eq id) elements) ≡ list_any (λ element. id == element.id) (map element_of elements)
  found_element elements =
      is_some-lookup (nat_eq id) elements
      ∙ list_any-map (λ (e : ℕ × Base). e.0) (nat_eq id) elements
      ∙ sym (list_any-map element_of (λ element. id == element.id) elements)

  pub found_timeline : (timelines : List (ℕ × ℕ))
      → is_some (lookup (nat_eq id) timelines) ≡ list_any (λ clock. id == clock.id) (map clock_of timelines)
  found_timeline timelines =
      is_some-lookup (nat_eq id) timelines
      ∙ list_any-map (λ (e : ℕ × ℕ). e.0) (nat_eq id) timelines
      ∙ sym (list_any-map clock_of (λ clock. id == clock.id) timelines)

  pub found_model : (models : List (ℕ × Arc Spec Global)) → StandUnderOwnIds models
      → is_some (lookup (nat_eq id) models) ≡ list_any (λ model. id == model.id) (map spec_of models)
  found_model models own =
      is_some-lookup (nat_eq id) models
      ∙ ap (list_any (nat_eq id)) own
      ∙ list_any-map (λ model. model.id) (nat_eq id) (map spec_of models)

  pub place_of_model : (models : List (ℕ × Arc Spec Global)) → StandUnderOwnIds models
      → position (nat_eq id) (keys_of models) ≡ position (λ model. id == model.id) (map spec_of models)
  place_of_model models own =
      ap (position (nat_eq id)) own
      ∙ position-map (λ model. model.id) (nat_eq id) (map spec_of models)

  pub origin_found : (timelines : List (ℕ × ℕ))
      → lookup (nat_eq id) timelines ≡ option_map (λ clock. clock.origin) (find (λ clock. id == clock.id) (map clock_of timelines))
  origin_found [] = refl
  origin_found (e ∷ es) = first (nat_eq id e.0) e.1 e.0 _ _ (origin_found es)

-- ---- ids

pub ids_of_elements : (elements : List (ℕ × Base)) → map (λ element. element.id) (map element_of elements) ≡ keys_of elements
ids_of_elements elements = map-map (λ element. element.id) element_of elements

-- ---- local times

-- a model's local time, where its timeline was found to show 0 at this tick
pub local_time-found : (tree : TreeLists) (tick : ℕ) (model : Spec) (shown : Shown) (origin : ℕ)
    → Some origin ≡ option_map (λ clock. clock.origin) (find (λ clock. model.timeline == clock.id) tree.timelines)
    → local_time tree tick model shown ≡ timeline_time origin tick -ℤ shown.start
local_time-found tree tick model shown origin found =
    ap (λ o. timeline_time (unwrap_or o 0) tick -ℤ shown.start) (sym found)

-- Edits of the tables, by the lists that these stand for.
use Rattle.std.proofs.Common.{◌≡◌, ℕ, ◌==◌, nat_eq, Bool, true, false, cond, ◌||◌, if◌then◌else◌, IsTrue, List, [], ◌∷◌, ◌++◌, map, All, Some, None, refl, sym, ap, subst, ◌∙◌}
use Rattle.std.specs.Map.{lookup, remove_entry, set_value}
use Rattle.std.specs.declared.alloc.Global.{Global}
use Rattle.std.specs.declared.sync.Arc.{Arc}
use Rattle.std.proofs.lemmas.List.{map-append}
use Rattle.std.proofs.lemmas.List.Elements.{All-head, All-tail}
use Rattle.indexmap.specs.IndexMap.{insert_entry}
use Rattle.keyframe_model.specs.Models.{Spec}
use Rattle.tree_commit.specs.declared.base.Base.{Base}
use Rattle.tree_commit.specs.Trees.{Look}
use Rattle.tree_commit.specs.Edits.{is_in, without, with_look}
use Rattle.tree_commit.specs.Tables.{element_of, spec_of, clock_of, StandUnderOwnIds}
use Rattle.tree_commit.specs.Views.{look_of}
use borrow.Author.Tests.{eqb-true}

-- the ids of a table
abbrev pub ids_of : {A : Type 0} → List (ℕ × A) → List ℕ
ids_of entries = map (λ entry. entry.0) entries

-- ---- one more

-- an entry of a new id goes last
pub insert_entry-absent : {A : Type 0} (es : List (ℕ × A)) (id : ℕ) (x : A) → is_in id (ids_of es) ≡ false → insert_entry nat_eq es id x ≡ es ++ (id, x) ∷ []
insert_entry-absent [] id x = λ absent. refl
insert_entry-absent (e ∷ es) id x =
    elim (nat_eq id e.0) as (λ b. (b || is_in id (ids_of es)) ≡ false → (if b then (e.0, x) ∷ es else e ∷ insert_entry nat_eq es id x) ≡ e ∷ (es ++ (id, x) ∷ []))
    [ true ↦ λ absent. cc | false ↦ λ absent. ap (λ rest. e ∷ rest) (insert_entry-absent es id x absent) ]

-- and so does what it stands for
pub map-insert_entry : {A B : Type 0} (f : ℕ × A → B) (es : List (ℕ × A)) (id : ℕ) (x : A) → is_in id (ids_of es) ≡ false
    → map f (insert_entry nat_eq es id x) ≡ map f es ++ f (id, x) ∷ []
map-insert_entry f es id x absent = ap (map f) (insert_entry-absent es id x absent) ∙ map-append f es ((id, x) ∷ [])

-- a model under its own id
pub own_ids-insert_entry : (es : List (ℕ × Arc Spec Global)) (id : ℕ) (model : Arc Spec Global) → is_in id (ids_of es) ≡ false
    → model.value.id ≡ id → StandUnderOwnIds es → StandUnderOwnIds (insert_entry nat_eq es id model)
own_ids-insert_entry es id model absent own_id own =
    map-insert_entry (λ entry. entry.0) es id model absent
    ∙ (λ i. own i ++ sym own_id i ∷ [])
    ∙ sym (map-append (λ (spec : Spec). spec.id) (map spec_of es) (model.value ∷ []))
    ∙ sym (ap (map (λ (spec : Spec). spec.id)) (map-insert_entry spec_of es id model absent))

-- ---- one less

-- without the entry of an id, and then what the entries stand for, or the other way round
pub map-remove_entry : {A B : Type 0} (f : ℕ × A → B) (id_of : B → ℕ) (id : ℕ) (es : List (ℕ × A)) → ids_of es ≡ map id_of (map f es)
    → map f (remove_entry (nat_eq id) es) ≡ without (λ x. id == id_of x) (map f es)
map-remove_entry f id_of id [] own = refl
map-remove_entry f id_of id (e ∷ es) own =
    let own_id : e.0 ≡ id_of (f e) = cc in
    let others : ids_of es ≡ map id_of (map f es) = cc in
    subst (λ k. map f (remove_entry (nat_eq id) (e ∷ es)) ≡ (if nat_eq id k then map f es else f e ∷ without (λ x. id == id_of x) (map f es))) own_id
    (elim (nat_eq id e.0) as (λ b.
    map f (cond b es (e ∷ remove_entry (nat_eq id) es)) ≡ (if b then map f es else f e ∷ without (λ x. id == id_of x) (map f es)))
    [ true ↦ refl | false ↦ ap (λ rest. f e ∷ rest) (map-remove_entry f id_of id es others) ])

pub own_ids-remove_entry : (id : ℕ) (es : List (ℕ × Arc Spec Global)) → StandUnderOwnIds es → StandUnderOwnIds (remove_entry (nat_eq id) es)
own_ids-remove_entry id [] own = refl
own_ids-remove_entry id (e ∷ es) own =
    let own_id : e.0 ≡ (spec_of e).id = cc in
    let others : StandUnderOwnIds es = cc in
    elim (nat_eq id e.0) as (λ b. StandUnderOwnIds (cond b es (e ∷ remove_entry (nat_eq id) es)))
    [ true ↦ others | false ↦ λ i. own_id i ∷ own_ids-remove_entry id es others i ]

-- ---- another look

pub map-set_value : (id : ℕ) (change : Look → Look) (old base : Base) (es : List (ℕ × Base)) → look_of base ≡ change (look_of old)
    → lookup (nat_eq id) es ≡ Some old
    → map element_of (set_value (nat_eq id) es base) ≡ with_look id change (map element_of es)
map-set_value id change old base [] looks = λ found. refl
map-set_value id change old base (e ∷ es) looks =
    elim (nat_eq id e.0) as (λ b.
    cond b (Some e.1) (lookup (nat_eq id) es) ≡ Some old
    → map element_of (cond b ((e.0, base) ∷ es) (e ∷ set_value (nat_eq id) es base))
    ≡ (if b then record (element_of e) { look = change (look_of e.1) } ∷ map element_of es else element_of e ∷ with_look id change (map element_of es))) [
      | true ↦ λ found.
          let is_old : e.1 ≡ old = cc in
          let same : look_of base ≡ change (look_of e.1) = looks ∙ ap (λ it. change (look_of it)) (sym is_old) in
          λ i. record { id = e.0; look = same i } ∷ map element_of es
      | false ↦ λ found. ap (λ rest. element_of e ∷ rest) (map-set_value id change old base es looks found)
    ]

-- where there is no such element, none gets another look
pub with_look-absent : (id : ℕ) (change : Look → Look) (es : List (ℕ × Base)) → lookup (nat_eq id) es ≡ None
    → with_look id change (map element_of es) ≡ map element_of es
with_look-absent id change [] = λ none. refl
with_look-absent id change (e ∷ es) =
    elim (nat_eq id e.0) as (λ b.
    cond b (Some e.1) (lookup (nat_eq id) es) ≡ None
    → (if b then record (element_of e) { look = change (look_of e.1) } ∷ map element_of es else element_of e ∷ with_look id change (map element_of es))
    ≡ element_of e ∷ map element_of es)
    [ true ↦ λ none. cc | false ↦ λ none. ap (λ rest. element_of e ∷ rest) (with_look-absent id change es none) ]

-- ---- ids

pub ids-element_of : (es : List (ℕ × Base)) → ids_of es ≡ map (λ element. element.id) (map element_of es)
ids-element_of [] = refl
ids-element_of (e ∷ es) = ap (λ ids. e.0 ∷ ids) (ids-element_of es)

pub ids-clock_of : (es : List (ℕ × ℕ)) → ids_of es ≡ map (λ clock. clock.id) (map clock_of es)
ids-clock_of [] = refl
ids-clock_of (e ∷ es) = ap (λ ids. e.0 ∷ ids) (ids-clock_of es)

-- an unused id is not a used one, and not among the others
not_this : (id : ℕ) (ids : List ℕ) (other : ℕ) (others : Bool) → IsTrue (is_in other ids) → is_in id ids ≡ false → others ≡ false
    → (nat_eq id other || others) ≡ false
not_this id ids other others there unused rest = by (nat_eq id other) refl
  where
    by : (b : Bool) → nat_eq id other ≡ b → (nat_eq id other || others) ≡ false
    by true same =
        let is_it : id ≡ other = eqb-true id other same in
        let used : is_in id ids ≡ true = ap (λ k. is_in k ids) is_it ∙ there in
        cc
    by false apart = ap (λ b. b || others) apart ∙ rest

-- an element's removal, as the definition of an edit says it
pub without-element_of : (id : ℕ) (es : List (ℕ × Base))
    → without (λ element. id == element.id) (map element_of es) ≡ map element_of (remove_entry (nat_eq id) es)
without-element_of id es = sym (map-remove_entry element_of (λ element. element.id) id es (ids-element_of es))

-- a model of an id that was never used is not there
pub absent_model : (id : ℕ) (ids : List ℕ) (models : List Spec) → All (λ model. IsTrue (is_in model.id ids)) models → is_in id ids ≡ false
    → is_in id (map (λ model. model.id) models) ≡ false
absent_model id ids [] added unused = refl
absent_model id ids (model ∷ models) added unused =
    not_this id ids model.id _ (All-head (λ other. IsTrue (is_in other.id ids)) model models added) unused (absent_model id ids models (All-tail (λ other. IsTrue (is_in other.id ids)) model models added) unused)

pub ruleset looks = (map-set_value, with_look-absent)

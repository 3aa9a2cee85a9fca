-- Lemmas on what the code keeps of the edits so far.
use Rattle.std.proofs.Common.{◌≡◌, ℕ, Bool, true, false, not, ◌||◌, List, [], ◌∷◌, ◌++◌, Option, Some, None, option_map, ◌==◌, find, Result, Ok, Err, IsOk, OnOk, OnErr, rules, sym, ◌∙◌, cond, refl, ap, nat_eq, if◌then◌else◌}
use Rattle.std.specs.Map.{lookup, set_value}
use Rattle.indexmap.specs.IndexMap.{insert_entry}
use Rattle.indexmap.specs.IndexSet.{insert_key, remove_key}
use Rattle.anim_names.specs.declared.property.Property.{Property}
use Rattle.keyframe_model.specs.Models.{Spec, property_of}
use Rattle.tree_commit.specs.declared.edits.group_shape.GroupShape.{GroupShape}
use Rattle.tree_commit.specs.declared.edits.refusal.EditRefusal.TheVariants.{ModelIdUsed, TimelineUnknown, GroupClosed}
use Rattle.tree_commit.specs.Edits.{Book, GroupParts, is_closed, AddModel, OnModels, edit_refusal, model_refusal, is_in, is_mixed, parts_of, without, new_parts, with_property, with_member}
use Rattle.tree_commit.specs.Books.{HasParts, group_of, groups_from}

-- where neither is so, the second is not so
pub or_right_false : (a b : Bool) → (a || b) ≡ false → b ≡ false
or_right_false true true h = h
or_right_false true false h = refl
or_right_false false b h = h

-- a key that is not there goes last
pub insert_key-new : (ids : List ℕ) (id : ℕ) → is_in id ids ≡ false → insert_key nat_eq ids id ≡ ids ++ id ∷ []
insert_key-new ids id h = ap (λ b. if b then ids else ids ++ id ∷ []) h

-- a set's removal, as the definition of an edit says it
pub remove_key-without : (test : ℕ → Bool) (ids : List ℕ) → remove_key test ids ≡ without test ids
remove_key-without test [] = refl
remove_key-without test (x ∷ xs) = ap (λ rest. if test x then xs else x ∷ rest) (remove_key-without test xs)

pub ruleset removals = (remove_key-without)

-- What does not read a group's own id gives the same of the group that is found as of its shape.
pub found-lookup : {X : Type 0} (f : Option GroupParts → X)
    → ((k j : ℕ) (shape : GroupShape) → f (Some (group_of (k, shape))) ≡ f (Some (group_of (j, shape))))
    → (group : ℕ) (entries : List (ℕ × GroupShape))
    → f (find (λ parts. group == parts.group) (groups_from entries)) ≡ f (option_map (λ shape. group_of (group, shape)) (lookup (nat_eq group) entries))
found-lookup f same group [] = refl
found-lookup f same group (e ∷ es) =
    elim (nat_eq group e.0) as (λ b.
    f (if b then Some (group_of e) else find (λ parts. group == parts.group) (groups_from es))
    ≡ f (option_map (λ shape. group_of (group, shape)) (cond b (Some e.1) (lookup (nat_eq group) es))))
    [ true ↦ same e.0 group e.1 | false ↦ found-lookup f same group es ]

-- a first model makes a new group, which goes last
pub with_member-first : (commits : ℕ) (model : Spec) (shape : GroupShape) (entries : List (ℕ × GroupShape))
    → group_of (model.group, shape) ≡ new_parts commits model
    → lookup (nat_eq model.group) entries ≡ None
    → groups_from (insert_entry nat_eq entries model.group shape) ≡ with_member commits model (groups_from entries)
with_member-first commits model shape [] new = λ none. ap (λ parts. parts ∷ []) new
with_member-first commits model shape (e ∷ es) new =
    elim (nat_eq model.group e.0) as (λ b.
    cond b (Some e.1) (lookup (nat_eq model.group) es) ≡ None
    → groups_from (if b then (e.0, shape) ∷ es else e ∷ insert_entry nat_eq es model.group shape)
    ≡ (if b then with_property (property_of model) (group_of e) ∷ groups_from es else group_of e ∷ with_member commits model (groups_from es)))
    [ true ↦ λ none. cc | false ↦ λ none. ap (λ rest. group_of e ∷ rest) (with_member-first commits model shape es new none) ]

-- a further model changes its group alone
pub with_member-further : (commits : ℕ) (model : Spec) (old shape : GroupShape) (entries : List (ℕ × GroupShape))
    → ((k : ℕ) → group_of (k, shape) ≡ with_property (property_of model) (group_of (k, old)))
    → lookup (nat_eq model.group) entries ≡ Some old
    → groups_from (set_value (nat_eq model.group) entries shape) ≡ with_member commits model (groups_from entries)
with_member-further commits model old shape [] new = λ found. cc
with_member-further commits model old shape (e ∷ es) new =
    elim (nat_eq model.group e.0) as (λ b.
    cond b (Some e.1) (lookup (nat_eq model.group) es) ≡ Some old
    → groups_from (cond b ((e.0, shape) ∷ es) (e ∷ set_value (nat_eq model.group) es shape))
    ≡ (if b then with_property (property_of model) (group_of e) ∷ groups_from es else group_of e ∷ with_member commits model (groups_from es))) [
      | true ↦ λ found.
          let is_old : e.1 ≡ old = cc in
          ap (λ parts. parts ∷ groups_from es) (new e.0 ∙ ap (λ it. with_property (property_of model) (group_of (e.0, it))) (sym is_old))
      | false ↦ λ found. ap (λ rest. group_of e ∷ rest) (with_member-further commits model old shape es new found)
    ]

-- a group whose shape says the same as before leaves all groups as they were
pub groups_from-same : (id : ℕ) (old shape : GroupShape) (entries : List (ℕ × GroupShape))
    → ((k : ℕ) → group_of (k, shape) ≡ group_of (k, old))
    → lookup (nat_eq id) entries ≡ Some old
    → groups_from (set_value (nat_eq id) entries shape) ≡ groups_from entries
groups_from-same id old shape [] same = λ found. refl
groups_from-same id old shape (e ∷ es) same =
    elim (nat_eq id e.0) as (λ b.
    cond b (Some e.1) (lookup (nat_eq id) es) ≡ Some old
    → groups_from (cond b ((e.0, shape) ∷ es) (e ∷ set_value (nat_eq id) es shape)) ≡ group_of e ∷ groups_from es) [
      | true ↦ λ found.
          let is_old : e.1 ≡ old = cc in
          ap (λ parts. parts ∷ groups_from es) (same e.0 ∙ ap (λ it. group_of (e.0, it)) (sym is_old))
      | false ↦ λ found. ap (λ rest. group_of e ∷ rest) (groups_from-same id old shape es same found)
    ]

-- ---- what is known of an edit that is not refused

-- where a choice gives no reason, the first test fails, and the rest gives none
pub no_reason : {A : Type 0} (test : Bool) (reason : A) (rest : Option A) → (if test then Some reason else rest) ≡ None → (test ≡ false) × (rest ≡ None)
no_reason true reason rest h = cc
no_reason false reason rest h = (refl, h)

-- a model that may be added has an id of its own
pub unused_id : (book : Book) (model : Spec) → edit_refusal book (OnModels (AddModel model)) ≡ None → is_in model.id book.models ≡ false
unfolding edit_refusal model_refusal
unused_id book model h = (no_reason _ _ _ h).0

-- its timeline is there
pub known_timeline : (book : Book) (model : Spec) → edit_refusal book (OnModels (AddModel model)) ≡ None → not (is_in model.timeline book.timelines) ≡ false
unfolding edit_refusal model_refusal
known_timeline book model h = (no_reason _ _ _ (no_reason _ _ _ h).1).0

-- and it goes with its group
pub fits_group : (book : Book) (model : Spec) → edit_refusal book (OnModels (AddModel model)) ≡ None
    → is_mixed model.element model.timeline model.start (property_of model) (parts_of book model.group) ≡ false
unfolding edit_refusal model_refusal
fits_group book model h =
    let used = no_reason (is_in model.id book.models) ModelIdUsed _ h in
    let known = no_reason (not (is_in model.timeline book.timelines)) TimelineUnknown _ used.1 in
    let open_group = no_reason (is_closed book.commits (parts_of book model.group)) GroupClosed _ known.1 in
    (no_reason _ _ _ open_group.1).0

-- a model is refused by its parts alone
pub edit_refusal-parts : (book : Book) (model : Spec) (id group element timeline : ℕ) (start : Option ℕ) (property : Property)
    → HasParts model id group element timeline start property
    → model_refusal book id group element timeline start property ≡ edit_refusal book (OnModels (AddModel model))
unfolding edit_refusal
edit_refusal-parts book model id group element timeline start property parts =
    rw (← parts.id_is, ← parts.group_is, ← parts.element_is, ← parts.timeline_is, ← parts.start_is, ← parts.property_is)

-- what a call promises at Ok, where it answers Ok
pub from_ok : {T E P : Type 0} (r : Result T E) → IsOk r → OnOk r P → P
from_ok (Ok x) ok h = h
from_ok (Err e) ok h = absurd (search rules)

-- what is so anyway is so at Err
pub on_err : {T E P : Type 0} (r : Result T E) → P → OnErr r P
on_err (Ok x) h = tt
on_err (Err e) h = h

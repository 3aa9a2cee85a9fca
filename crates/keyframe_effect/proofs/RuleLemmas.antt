-- A group's row that tells the truth follows the rule.
use Rattle.std.proofs.Common.{◌≡◌, ◌==◌, eqb-true, Bool, true, false, not, ◌&&◌, ◌||◌, List, [], ◌∷◌, filter, cond, refl, sym, ap, ◌∙◌}
use Rattle.std.specs.List.{list_any, list_all}
use Rattle.std.proofs.lemmas.Bool.{and_parts}
use Rattle.anim_names.specs.declared.property.Property.{Property}
use Rattle.anim_names.specs.declared.property.TheConstants.{PROPERTIES}
use Rattle.anim_names.specs.Properties.{is_property}
use Rattle.anim_names.proofs.PropertyLemmas.{any-of_one}
use Rattle.keyframe_model.specs.Models.{Spec, property_of}
use Rattle.element_anims.specs.Elements.{Anims}
use Rattle.keyframe_effect.specs.declared.group.GroupRow.{GroupRow}
use Rattle.keyframe_effect.specs.Ready.{is_blocked_for, is_some_blocked, is_there, is_ready}
use Rattle.keyframe_effect.specs.Rule.{has_some, animates, may_all_start, IsInTable, RowsFollowTheRule}

-- ---- the models of a group, picked from a list

-- there are some where one passes
pub has_some-filter : (test : Spec → Bool) (models : List Spec) → has_some (filter test models) ≡ list_any test models
has_some-filter test [] = refl
has_some-filter test (model ∷ models) = by (test model) (has_some-filter test models)
  where
    by : (b : Bool) → has_some (filter test models) ≡ list_any test models
        → has_some (cond b (model ∷ filter test models) (filter test models)) ≡ (b || list_any test models)
    by true rest = refl
    by false rest = rest

-- each of them passes
pub list_all-filter : (test : Spec → Bool) (models : List Spec) → list_all test (filter test models) ≡ true
list_all-filter test [] = refl
list_all-filter test (model ∷ models) = by (test model) refl (list_all-filter test models)
  where
    by : (b : Bool) → test model ≡ b → list_all test (filter test models) ≡ true
        → list_all test (cond b (model ∷ filter test models) (filter test models)) ≡ true
    by true is rest = ap (λ c. c && list_all test (filter test models)) is ∙ rest
    by false is rest = rest

-- ---- tests

-- a test of which one part holds everywhere is that part's or the other's
any-or : {A : Type 0} (one other test : A → Bool) (list : List A)
    → list_any (λ a. (one a || other a) && test a) list
    ≡ (list_any (λ a. one a && test a) list || list_any (λ a. other a && test a) list)
any-or one other test [] = refl
any-or one other test (a ∷ list) =
    ap (λ rest. ((one a || other a) && test a) || rest) (any-or one other test list)
    ∙ by (one a) (other a) (test a) (list_any (λ a. one a && test a) list) (list_any (λ a. other a && test a) list)
  where
    by : (o p t x y : Bool) → (((o || p) && t) || (x || y)) ≡ (((o && t) || x) || ((p && t) || y))
    by true true true x y = refl
    by true false true x y = refl
    by false true true true y = refl
    by false true true false y = refl
    by false false t x y = refl
    by true true false x y = refl
    by true false false x y = refl
    by false true false x y = refl

-- Models may start: where there are some their element is there, and no property of theirs is blocked.
abbrev pub may : (there some blocked : Bool) → Bool
may there some blocked = (not some || there) && not blocked

-- one model may start, and others may
one_more : (there some this blocked : Bool)
    → ((there && not this) && may there some blocked) ≡ may there true (this || blocked)
one_more false some this blocked = refl
one_more true some true blocked = refl
one_more true true false blocked = refl
one_more true false false blocked = refl

-- nothing that has started is ready
once : (some there free all : Bool) → ((some && not true) && there && free) ≡ (some && not true && all)
once true there free all = refl
once false there free all = refl

-- before it started, it is ready where there are models and they may start
before : (some there blocked : Bool)
    → ((some && not false) && there && not blocked) ≡ (some && not false && may there some blocked)
before true there blocked = refl
before false there blocked = refl

-- ---- the rule

module _ (row : GroupRow) (table : Anims) (pending_has : Bool) (test : Spec → Bool)
    (agrees : IsInTable row table pending_has test)
  where
    abbrev there : Bool
    there = is_there table row.element pending_has

    abbrev blocked : Property → Bool
    blocked property = is_blocked_for table row.group row.element property

    -- a property of these models is blocked
    abbrev some_blocked : List Spec → Bool
    some_blocked models = list_any (λ property. animates property models && blocked property) PROPERTIES

    -- one model of the group
    one : (model : Spec) → model.group ≡ row.group → model.element ≡ row.element
        → test model ≡ (there && not (blocked (property_of model)))
    one model group element =
        agrees model group element
        ∙ (λ i. is_there table (element i) pending_has && not (is_blocked_for table (group i) (element i) (property_of model)))

    -- one more model has one property more
    more : (model : Spec) (models : List Spec)
        → some_blocked (model ∷ models) ≡ (blocked (property_of model) || some_blocked models)
    more model models =
        any-or (is_property (property_of model)) (λ property. animates property models) blocked PROPERTIES
        ∙ ap (λ this. this || some_blocked models) (any-of_one blocked (property_of model))

    -- all of them
    all : (models : List Spec) → list_all (λ model. row.group == model.group) models ≡ true
        → list_all (λ model. row.element == model.element) models ≡ true
        → list_all test models ≡ may there (has_some models) (some_blocked models)
    all [] groups elements = refl
    all (model ∷ models) groups elements =
        let g = and_parts (row.group == model.group) _ groups in
        let e = and_parts (row.element == model.element) _ elements in
        let this = one model (sym (eqb-true row.group model.group g.0)) (sym (eqb-true row.element model.element e.0)) in
        (λ i. this i && all models g.1 e.1 i)
        ∙ one_more there (has_some models) (blocked (property_of model)) (some_blocked models)
        ∙ ap (may there true) (sym (more model models))

pub rows_follow : RowsFollowTheRule
unfolding is_ready
rows_follow row table pending_has models has_started test tells agrees = by has_started refl
  where
    by : (b : Bool) → has_started ≡ b → is_ready row table pending_has ≡ may_all_start test models has_started
    by true is =
        (λ i. (tells.waiting ∙ ap (λ b. has_some models && not b) is) i && is_there table row.element pending_has
        && not (is_some_blocked row table))
        ∙ once (has_some models) (is_there table row.element pending_has) (not (is_some_blocked row table))
        (list_all test models)
        ∙ (λ i. has_some models && not (sym is i) && list_all test models)
    by false is =
        (λ i. (tells.waiting ∙ ap (λ b. has_some models && not b) is) i && is_there table row.element pending_has
        && not (list_any (λ property. tells.properties is property i && is_blocked_for table row.group row.element property)
        PROPERTIES))
        ∙ before (has_some models) (is_there table row.element pending_has)
        (some_blocked row table pending_has test agrees models)
        ∙ (λ i. has_some models && not (sym is i)
        && sym (all row table pending_has test agrees models tells.own_group tells.own_element) i)

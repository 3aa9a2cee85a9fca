-- Rows of groups: what one more mark changes, and what one more model does.
use Rattle.std.proofs.Common.{◌≡◌, ◌≢◌, ℕ, suc, zero, ◌+◌, ◌≤◌, Bool, true, false, ◌||◌, if◌then◌else◌, List, [], ◌∷◌, ◌++◌, length, map, take, filter, cond, Option, Some, None, refl, sym, ap, ◌∙◌, subst, nat_eq, arith, inl, inr}
use Rattle.std.specs.Prelude.{◌-◌, ◌==◌, ◌&&◌, slice_get, count_by, option_map, IfSome}
use Rattle.std.specs.List.{IsDistinct, AllByRecursion}
use Rattle.std.proofs.Math.Bool.{or-false}
use Rattle.std.proofs.lemmas.Bool.{eq-eqb}
use Rattle.std.proofs.lemmas.Bool.Decides.{eqb_tells}
use Rattle.std.proofs.lemmas.List.{append-nil}
use Rattle.std.proofs.lemmas.List.Elements.{filter-append}
use Rattle.std.proofs.lemmas.List.Sums.{count_by-le-length, sum_by-append, sum_by-cons}
use Rattle.std.proofs.lemmas.Map.Keys.{IsDistinct-head, IsDistinct-tail}
use Rattle.std.proofs.lemmas.Option.{none-some, same_Some}
use Rattle.anim_names.specs.declared.property.Property.{Property}
use Rattle.anim_names.specs.declared.per_property.PerProperty.{PerProperty}
use Rattle.anim_names.specs.Properties.{at, every, for_each, is_property, put}
use Rattle.anim_names.proofs.PropertyLemmas.{at-for_each, at-put, same-at}
use Rattle.keyframe_model.specs.Models.{Spec, property_of}
use Rattle.keyframe_effect.specs.declared.group.GroupRow.{GroupRow}
use Rattle.keyframe_effect.specs.declared.state.RunState.{RunState}
use Rattle.keyframe_effect.specs.Groups.{CanMove, moved, one_if}
use Rattle.keyframe_effect.specs.Rule.{animates}
use Rattle.keyframe_effect.specs.States as effect
use Rattle.run_rules.specs.declared.mark.Mark.{Mark}
use Rattle.run_rules.specs.declared.mark.Mark.TheVariants.{OfModel}
use Rattle.run_rules.specs.declared.mark.ModelMark.{ModelMark}
use Rattle.anim_names.specs.Lists.{IsAmong}
use Rattle.run_rules.specs.Marks.{is_unfinished}
use Rattle.host_tables.specs.Groups.{group_row_of, is_waiting, joined_row, row_of_members}
use Rattle.host_tables.specs.States.{FinishesStarted, state_of}
use Rattle.host_tables.proofs.CommitGroupsLemmas.{filter-fewer}
use Rattle.host_tables.proofs.StateLemmas.{one_any, state-other, state-runs, state-waits}
use Rattle.std.proofs.Math.Nat.{add-zero}

-- ---- counts

pub count-cons : (p : Spec → Bool) (x : Spec) (xs : List Spec) → count_by p (x ∷ xs) ≡ one_if (p x) + count_by p xs
count-cons p x xs = sum_by-cons (λ (m : Spec). one_if (p m)) x xs

count-last : (p : Spec → Bool) (xs : List Spec) (x : Spec) → count_by p (xs ++ x ∷ []) ≡ count_by p xs + one_if (p x)
count-last p xs x =
    sum_by-append (λ (m : Spec). one_if (p m)) xs (x ∷ [])
    ∙ ap (λ (n : ℕ). count_by p xs + n) (count-cons p x [] ∙ add-zero (one_if (p x)))

count-one : (p : Spec → Bool) (x : Spec) → count_by p (x ∷ []) ≡ one_if (p x)
count-one p x = count-cons p x [] ∙ add-zero (one_if (p x))

-- models of other ids count alike
count-same : (keep p q : Spec → Bool) (id : ℕ) → ((x : Spec) → x.id ≢ id → q x ≡ p x)
    → (models : List Spec) → AllByRecursion (λ other. nat_eq id other ≡ false) (map (λ model. model.id) models)
    → count_by q (filter keep models) ≡ count_by p (filter keep models)
count-same keep p q id same [] all = refl
count-same keep p q id same (x ∷ xs) all = step (keep x) (count-same keep p q id same xs all.1)
  where
    other : x.id ≢ id
    other is = let here : nat_eq id x.id ≡ true = eq-eqb id x.id (sym is) in let apart = all.0 in absurd cc

    step : (b : Bool) → count_by q (filter keep xs) ≡ count_by p (filter keep xs)
        → count_by q (cond b (x ∷ filter keep xs) (filter keep xs)) ≡ count_by p (cond b (x ∷ filter keep xs) (filter keep xs))
    step true rest =
        count-cons q x (filter keep xs)
        ∙ (λ i. one_if (same x other i) + rest i)
        ∙ sym (count-cons p x (filter keep xs))
    step false rest = rest

apart-among : (id : ℕ) (models : List Spec) (model : Spec) → AllByRecursion (λ other. nat_eq id other ≡ false) (map (λ m. m.id) models)
    → IsAmong model models → nat_eq id model.id ≡ false
apart-among id [] model all among = absurd among
apart-among id (x ∷ xs) model all among =
    elim among [
      | inl is ↦ ap (λ (m : Spec). nat_eq id m.id) is ∙ all.0
      | inr rest ↦ apart-among id xs model all.1 rest
    ]

swapped : (a b m n : ℕ) → m ≡ n → (a + m) + b ≡ (b + n) + a
swapped a b m n same = omega (arith, same)

carried : (a b c m n : ℕ) → m + b ≡ n + c → (a + m) + b ≡ (a + n) + c
carried a b c m n same = omega (arith, same)

-- one model counts otherwise, and the others alike
pub count-moves : (keep p q : Spec → Bool) (model : Spec) → ((x : Spec) → x.id ≢ model.id → q x ≡ p x)
    → (models : List Spec) → IsDistinct nat_eq (map (λ m. m.id) models) → IsAmong model models
    → count_by q (filter keep models) + one_if (keep model && p model) ≡ count_by p (filter keep models) + one_if (keep model && q model)
count-moves keep p q model same [] differ among = absurd among
count-moves keep p q model same (x ∷ xs) differ among =
    elim among [
      | inl is ↦
          subst (λ (m : Spec). count_by q (filter keep (x ∷ xs)) + one_if (keep m && p m) ≡ count_by p (filter keep (x ∷ xs)) + one_if (keep m && q m))
          (sym is)
          (here (keep x) (count-same keep p q x.id (λ y other. same y (λ e. other (e ∙ ap (λ (m : Spec). m.id) is))) xs head))
      | inr rest ↦
          later (keep x)
          (same x (λ e. clash (ap (λ (k : ℕ). nat_eq x.id k) (sym e) ∙ eq-eqb x.id x.id refl) (apart-among x.id xs model head rest)))
          (count-moves keep p q model same xs (IsDistinct-tail nat_eq x.id (map (λ m. m.id) xs) differ) rest)
    ]
  where
    head : AllByRecursion (λ other. nat_eq x.id other ≡ false) (map (λ m. m.id) xs)
    head = IsDistinct-head nat_eq x.id (map (λ m. m.id) xs) differ

    clash : {A : Type 0} {b : Bool} → b ≡ true → b ≡ false → A
    clash holds fails = absurd cc

    here : (b : Bool) → count_by q (filter keep xs) ≡ count_by p (filter keep xs)
        → count_by q (cond b (x ∷ filter keep xs) (filter keep xs)) + one_if (b && p x)
        ≡ count_by p (cond b (x ∷ filter keep xs) (filter keep xs)) + one_if (b && q x)
    here true rest =
        ap (λ (n : ℕ). n + one_if (p x)) (count-cons q x (filter keep xs))
        ∙ swapped (one_if (q x)) (one_if (p x)) (count_by q (filter keep xs)) (count_by p (filter keep xs)) rest
        ∙ sym (ap (λ (n : ℕ). n + one_if (q x)) (count-cons p x (filter keep xs)))
    here false rest = ap (λ (n : ℕ). n + 0) rest

    later : (b : Bool) → q x ≡ p x
        → count_by q (filter keep xs) + one_if (keep model && p model) ≡ count_by p (filter keep xs) + one_if (keep model && q model)
        → count_by q (cond b (x ∷ filter keep xs) (filter keep xs)) + one_if (keep model && p model)
        ≡ count_by p (cond b (x ∷ filter keep xs) (filter keep xs)) + one_if (keep model && q model)
    later true alike rest =
        ap (λ (n : ℕ). n + one_if (keep model && p model)) (count-cons q x (filter keep xs) ∙ ap (λ (b : Bool). one_if b + count_by q (filter keep xs)) alike)
        ∙ carried (one_if (p x)) (one_if (keep model && p model)) (one_if (keep model && q model)) (count_by q (filter keep xs)) (count_by p (filter keep xs)) rest
        ∙ sym (ap (λ (n : ℕ). n + one_if (keep model && q model)) (count-cons p x (filter keep xs)))
    later false alike rest = rest

-- a model that counts is counted
pub count-has : (keep p : Spec → Bool) (model : Spec) (models : List Spec) → IsAmong model models
    → one_if (keep model && p model) ≤ count_by p (filter keep models)
count-has keep p model [] among = absurd among
count-has keep p model (x ∷ xs) among =
    elim among [
      | inl is ↦ subst (λ (m : Spec). one_if (keep m && p m) ≤ count_by p (filter keep (x ∷ xs))) (sym is) (here (keep x))
      | inr rest ↦ later (keep x) (count-has keep p model xs rest)
    ]
  where
    here : (b : Bool) → one_if (b && p x) ≤ count_by p (cond b (x ∷ filter keep xs) (filter keep xs))
    here true = let is = count-cons p x (filter keep xs) in omega (arith, is)
    here false = omega arith

    later : (b : Bool) → one_if (keep model && p model) ≤ count_by p (filter keep xs)
        → one_if (keep model && p model) ≤ count_by p (cond b (x ∷ filter keep xs) (filter keep xs))
    later true few = let is = count-cons p x (filter keep xs) in omega (arith, is, few)
    later false few = few

-- a group has at most all models
pub count-few : (keep p : Spec → Bool) (models : List Spec) → count_by p (filter keep models) ≤ length models
count-few keep p models =
    let few = count_by-le-length p (filter keep models) in
    let all = filter-fewer keep models in
    omega (arith, few, all)

-- ---- one more mark

-- what a row is by its counts
row-moves : (before after : RunState) (old new : List Mark) (group : ℕ) (members : List Spec)
    → count_by (λ model. is_waiting new model.id) members + one_if (effect.is_waiting before)
    ≡ count_by (λ model. is_waiting old model.id) members + one_if (effect.is_waiting after)
    → count_by (λ model. is_unfinished new model.id) members + one_if (effect.is_unfinished before)
    ≡ count_by (λ model. is_unfinished old model.id) members + one_if (effect.is_unfinished after)
    → row_of_members new group members ≡ option_map (moved before after) (row_of_members old group members)
row-moves before after old new group [] waits runs = refl
row-moves before after old new group (first ∷ mates) waits runs = λ i.
    Some (record {
      group = group;
      element = first.element;
      waiting = cut (count_by (λ model. is_waiting new model.id) (first ∷ mates)) _ (one_if (effect.is_waiting before)) waits i;
      unfinished = cut (count_by (λ model. is_unfinished new model.id) (first ∷ mates)) _ (one_if (effect.is_unfinished before)) runs i;
      animates = for_each (λ property. animates property (first ∷ mates));
    })
  where
    cut : (n all more : ℕ) → n + more ≡ all → n ≡ all - more
    cut n all more is = omega (arith, is)

row-stays : (old new : List Mark) (group : ℕ) (members : List Spec)
    → count_by (λ model. is_waiting new model.id) members ≡ count_by (λ model. is_waiting old model.id) members
    → count_by (λ model. is_unfinished new model.id) members ≡ count_by (λ model. is_unfinished old model.id) members
    → row_of_members new group members ≡ row_of_members old group members
row-stays old new group [] waits runs = refl
row-stays old new group (first ∷ mates) waits runs = λ i.
    Some (record {
      group = group;
      element = first.element;
      waiting = waits i;
      unfinished = runs i;
      animates = for_each (λ property. animates property (first ∷ mates));
    })

module _ (models : List Spec) (marks : List Mark) (what : ModelMark) (model : Spec)
    (differ : IsDistinct nat_eq (map (λ m. m.id) models)) (there : IsAmong model models)
    (fits : FinishesStarted marks) (more : FinishesStarted (marks ++ OfModel model.id what ∷ []))
  where
    abbrev new : List Mark
    new = marks ++ OfModel model.id what ∷ []

    waits-other : (x : Spec) → x.id ≢ model.id → is_waiting new x.id ≡ is_waiting marks x.id
    waits-other x other =
        sym (state-waits new x.id more)
        ∙ ap effect.is_waiting (state-other marks model.id what x.id other)
        ∙ state-waits marks x.id fits

    runs-other : (x : Spec) → x.id ≢ model.id → is_unfinished new x.id ≡ is_unfinished marks x.id
    runs-other x other =
        sym (state-runs new x.id)
        ∙ ap effect.is_unfinished (state-other marks model.id what x.id other)
        ∙ state-runs marks x.id

    own : (model.group == model.group) ≡ true
    own = eq-eqb model.group model.group refl

    waits-move : (before after : RunState) → before ≡ state_of marks model.id → after ≡ state_of new model.id
        → count_by (λ m. is_waiting new m.id) (filter (λ m. model.group == m.group) models) + one_if (effect.is_waiting before)
        ≡ count_by (λ m. is_waiting marks m.id) (filter (λ m. model.group == m.group) models) + one_if (effect.is_waiting after)
    waits-move before after was is =
        ap (λ (b : Bool). count_by (λ (m : Spec). is_waiting new m.id) (filter (λ (m : Spec). model.group == m.group) models) + one_if b)
        (ap effect.is_waiting was ∙ state-waits marks model.id fits ∙ sym (ap (λ b. b && is_waiting marks model.id) own))
        ∙ count-moves (λ (m : Spec). model.group == m.group) (λ (m : Spec). is_waiting marks m.id) (λ (m : Spec). is_waiting new m.id) model waits-other models differ there
        ∙ ap (λ (b : Bool). count_by (λ (m : Spec). is_waiting marks m.id) (filter (λ (m : Spec). model.group == m.group) models) + one_if b)
        (ap (λ b. b && is_waiting new model.id) own ∙ sym (state-waits new model.id more) ∙ ap effect.is_waiting (sym is))

    runs-move : (before after : RunState) → before ≡ state_of marks model.id → after ≡ state_of new model.id
        → count_by (λ m. is_unfinished new m.id) (filter (λ m. model.group == m.group) models) + one_if (effect.is_unfinished before)
        ≡ count_by (λ m. is_unfinished marks m.id) (filter (λ m. model.group == m.group) models) + one_if (effect.is_unfinished after)
    runs-move before after was is =
        ap (λ (b : Bool). count_by (λ (m : Spec). is_unfinished new m.id) (filter (λ (m : Spec). model.group == m.group) models) + one_if b)
        (ap effect.is_unfinished was ∙ state-runs marks model.id ∙ sym (ap (λ b. b && is_unfinished marks model.id) own))
        ∙ count-moves (λ (m : Spec). model.group == m.group) (λ (m : Spec). is_unfinished marks m.id) (λ (m : Spec). is_unfinished new m.id) model runs-other models differ there
        ∙ ap (λ (b : Bool). count_by (λ (m : Spec). is_unfinished marks m.id) (filter (λ (m : Spec). model.group == m.group) models) + one_if b)
        (ap (λ b. b && is_unfinished new model.id) own ∙ sym (state-runs new model.id) ∙ ap effect.is_unfinished (sym is))

    -- the row of the model's group
    pub group-here : (before after : RunState) → before ≡ state_of marks model.id → after ≡ state_of new model.id
        → group_row_of models new model.group ≡ option_map (moved before after) (group_row_of models marks model.group)
    unfolding group_row_of
    group-here before after was is =
        row-moves before after marks new model.group (filter (λ (m : Spec). model.group == m.group) models)
        (waits-move before after was is) (runs-move before after was is)

    -- that of another group
    pub group-else : (group : ℕ) → group ≢ model.group → group_row_of models new group ≡ group_row_of models marks group
    unfolding group_row_of
    group-else group other =
        let keep = λ (m : Spec). group == m.group in
        let not_own : keep model ≡ false = elim (eqb_tells group model.group) [ inl t ↦ absurd (other t.1) | inr f ↦ f.0 ] in
        let w = count-moves keep (λ (m : Spec). is_waiting marks m.id) (λ (m : Spec). is_waiting new m.id) model waits-other models differ there in
        let r = count-moves keep (λ (m : Spec). is_unfinished marks m.id) (λ (m : Spec). is_unfinished new m.id) model runs-other models differ there in
        row-stays marks new group (filter keep models)
        (level (keep model) not_own (is_waiting marks model.id) (is_waiting new model.id) _ _ w)
        (level (keep model) not_own (is_unfinished marks model.id) (is_unfinished new model.id) _ _ r)
      where
        level : (b : Bool) → b ≡ false → (p q : Bool) (m n : ℕ) → m + one_if (b && p) ≡ n + one_if (b && q) → m ≡ n
        level true is p q m n same = absurd cc
        level false is p q m n same = omega (arith, same)

    -- the row can take the step
    pub group-can : (before after : RunState) (most : ℕ) → before ≡ state_of marks model.id → after ≡ state_of new model.id → length models ≤ most
        → IfSome (group_row_of models marks model.group) (CanMove most before after)
    unfolding group_row_of
    group-can before after most was is few =
        let keep = λ (m : Spec). model.group == m.group in
        let waited = count-has keep (λ (m : Spec). is_waiting marks m.id) model models there in
        let ran = count-has keep (λ (m : Spec). is_unfinished marks m.id) model models there in
        let had_w : (keep model && is_waiting marks model.id) ≡ effect.is_waiting before =
        ap (λ b. b && is_waiting marks model.id) own ∙ sym (state-waits marks model.id fits) ∙ ap effect.is_waiting (sym was) in
        let had_r : (keep model && is_unfinished marks model.id) ≡ effect.is_unfinished before =
        ap (λ b. b && is_unfinished marks model.id) own ∙ sym (state-runs marks model.id) ∙ ap effect.is_unfinished (sym was) in
        of_members (filter keep models)
        (subst (λ (b : Bool). one_if b ≤ count_by (λ (m : Spec). is_waiting marks m.id) (filter keep models)) had_w waited)
        (subst (λ (b : Bool). one_if b ≤ count_by (λ (m : Spec). is_unfinished marks m.id) (filter keep models)) had_r ran)
        (fit (count_by (λ (m : Spec). is_waiting new m.id) (filter keep models)) (count_by (λ (m : Spec). is_waiting marks m.id) (filter keep models))
        (one_if (effect.is_waiting before)) (one_if (effect.is_waiting after)) (length models) (waits-move before after was is)
        (count-few keep (λ (m : Spec). is_waiting new m.id) models) few)
        (fit (count_by (λ (m : Spec). is_unfinished new m.id) (filter keep models)) (count_by (λ (m : Spec). is_unfinished marks m.id) (filter keep models))
        (one_if (effect.is_unfinished before)) (one_if (effect.is_unfinished after)) (length models) (runs-move before after was is)
        (count-few keep (λ (m : Spec). is_unfinished new m.id) models) few)
      where
        fit : (n m was is all : ℕ) → n + was ≡ m + is → n ≤ all → all ≤ most → m + is ≤ most + was
        fit n m was is all same le lt = omega (arith, same, le, lt)

        of_members : (members : List Spec)
            → one_if (effect.is_waiting before) ≤ count_by (λ m. is_waiting marks m.id) members
            → one_if (effect.is_unfinished before) ≤ count_by (λ m. is_unfinished marks m.id) members
            → count_by (λ m. is_waiting marks m.id) members + one_if (effect.is_waiting after) ≤ most + one_if (effect.is_waiting before)
            → count_by (λ m. is_unfinished marks m.id) members + one_if (effect.is_unfinished after) ≤ most + one_if (effect.is_unfinished before)
            → IfSome (row_of_members marks model.group members) (CanMove most before after)
        of_members [] a b c d = tt
        of_members (first ∷ mates) a b c d = record { waited = a; ran = b; waiting = c; unfinished = d }

-- ---- one more model

taken : {A : Type 0} (xs : List A) (i : ℕ) (x : A) → slice_get xs i ≡ Some x → take (suc i) xs ≡ take i xs ++ x ∷ []
taken [] i x found = absurd (none-some x found)
taken (y ∷ ys) zero x found = ap (λ z. z ∷ []) (same_Some y x found)
taken (y ∷ ys) (suc i) x found = ap (λ zs. y ∷ zs) (taken ys i x found)

-- a flag more
flags-with : (flags : PerProperty Bool) (answers : Property → Bool) (kind : Property)
    → ((property : Property) → answers property ≡ (at flags property || is_property kind property))
    → for_each answers ≡ put flags kind true
flags-with flags answers kind are =
    same-at (for_each answers) (put flags kind true)
    (λ property.
    at-for_each answers property
    ∙ are property
    ∙ either (at flags property) (is_property kind property)
    ∙ sym (at-put flags kind property true))
  where
    either : (a b : Bool) → (a || b) ≡ (if b then true else a)
    either true true = refl
    either true false = refl
    either false true = refl
    either false false = refl

-- of one model
flags-first : (model : Spec) → for_each (λ property. animates property (model ∷ [])) ≡ put (every false) (property_of model) true
flags-first model =
    flags-with (every false) (λ property. animates property (model ∷ [])) (property_of model)
    (λ property.
    or-false (is_property (property_of model) property)
    ∙ ap (λ b. b || is_property (property_of model) property) (sym (at-for_each (λ (p : Property). false) property)))

-- of one model more
flags-next : (models : List Spec) (model : Spec)
    → for_each (λ property. animates property (models ++ model ∷ []))
    ≡ put (for_each (λ property. animates property models)) (property_of model) true
flags-next models model =
    flags-with (for_each (λ property. animates property models)) (λ property. animates property (models ++ model ∷ [])) (property_of model)
    (λ property.
    one_any (λ (m : Spec). is_property (property_of m) property) models model
    ∙ ap (λ b. b || is_property (property_of model) property) (sym (at-for_each (λ (p : Property). animates p models) property)))

row-joined : (marks : List Mark) (state : RunState) (model : Spec) (members : List Spec)
    → effect.is_waiting state ≡ is_waiting marks model.id → effect.is_unfinished state ≡ is_unfinished marks model.id
    → row_of_members marks model.group (members ++ model ∷ []) ≡ Some (joined_row model state (row_of_members marks model.group members))
row-joined marks state model [] waits runs = λ i.
    Some (record {
      group = model.group;
      element = model.element;
      waiting = (count-one (λ (m : Spec). is_waiting marks m.id) model ∙ ap one_if (sym waits)) i;
      unfinished = (count-one (λ (m : Spec). is_unfinished marks m.id) model ∙ ap one_if (sym runs)) i;
      animates = flags-first model i;
    })
row-joined marks state model (first ∷ mates) waits runs = λ i.
    Some (record {
      group = model.group;
      element = first.element;
      waiting =
          (count-last (λ (m : Spec). is_waiting marks m.id) (first ∷ mates) model
          ∙ ap (λ (b : Bool). count_by (λ (m : Spec). is_waiting marks m.id) (first ∷ mates) + one_if b) (sym waits)) i;
      unfinished =
          (count-last (λ (m : Spec). is_unfinished marks m.id) (first ∷ mates) model
          ∙ ap (λ (b : Bool). count_by (λ (m : Spec). is_unfinished marks m.id) (first ∷ mates) + one_if b) (sym runs)) i;
      animates = flags-next (first ∷ mates) model i;
    })

module _ (models : List Spec) (i : ℕ) (model : Spec) (found : slice_get models i ≡ Some model) (marks : List Mark) where
  members-taken : (group : ℕ) → filter (λ (m : Spec). group == m.group) (take (suc i) models)
      ≡ filter (λ (m : Spec). group == m.group) (take i models) ++ filter (λ (m : Spec). group == m.group) (model ∷ [])
  members-taken group =
      ap (filter (λ (m : Spec). group == m.group)) (taken models i model found)
      ∙ filter-append (λ (m : Spec). group == m.group) (take i models) (model ∷ [])

  -- the row of its group
  pub joined-here : (state : RunState) → FinishesStarted marks → state ≡ state_of marks model.id
      → group_row_of (take (suc i) models) marks model.group ≡ Some (joined_row model state (group_row_of (take i models) marks model.group))
  unfolding group_row_of
  joined-here state fits is =
      ap (row_of_members marks model.group)
      (members-taken model.group
      ∙ ap (λ (b : Bool). filter (λ (m : Spec). model.group == m.group) (take i models) ++ cond b (model ∷ []) []) (eq-eqb model.group model.group refl))
      ∙ row-joined marks state model (filter (λ (m : Spec). model.group == m.group) (take i models))
      (ap effect.is_waiting is ∙ state-waits marks model.id fits)
      (ap effect.is_unfinished is ∙ state-runs marks model.id)

  -- that of another group
  pub joined-else : (group : ℕ) → group ≢ model.group → group_row_of (take (suc i) models) marks group ≡ group_row_of (take i models) marks group
  unfolding group_row_of
  joined-else group other =
      let not_own : (group == model.group) ≡ false = elim (eqb_tells group model.group) [ inl t ↦ absurd (other t.1) | inr f ↦ f.0 ] in
      ap (row_of_members marks group)
      (members-taken group
      ∙ ap (λ (b : Bool). filter (λ (m : Spec). group == m.group) (take i models) ++ cond b (model ∷ []) []) not_own
      ∙ append-nil (filter (λ (m : Spec). group == m.group) (take i models)))

one-most : (b : Bool) → one_if b ≤ 1
one-most true = omega arith
one-most false = omega arith

-- a row of so many models counts no more of them
pub joined-few : (model : Spec) (state : RunState) (o : Option GroupRow) (n : ℕ)
    → IfSome o (λ row. (row.waiting ≤ n) × (row.unfinished ≤ n))
    → ((joined_row model state o).waiting ≤ n + 1) × ((joined_row model state o).unfinished ≤ n + 1)
joined-few model state None n few = (let w = one-most (effect.is_waiting state) in omega (arith, w), let r = one-most (effect.is_unfinished state) in omega (arith, r))
joined-few model state (Some row) n few = (
  let w = one-most (effect.is_waiting state) in let had = few.0 in omega (arith, w, had),
  let r = one-most (effect.is_unfinished state) in let had = few.1 in omega (arith, r, had),
)

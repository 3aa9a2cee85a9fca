-- The rows stand for the commits and the marks: what each change of a row keeps.
use Rattle.std.proofs.Common.{◌≡◌, ◌≢◌, ℕ, ◌+◌, Bool, true, false, ◌||◌, List, [], ◌∷◌, ◌++◌, length, map, take, drop, Option, Some, None, refl, sym, ap, ◌∙◌, subst, ◌≤◌, nat_eq, add-one, inl, inr}
use Rattle.std.specs.Prelude.{slice_get, ◌==◌, option_map, option_and_then, IfSome}
use Rattle.std.specs.List.{IsDistinct}
use Rattle.std.proofs.Math.Bool.{or-false}
use Rattle.std.proofs.lemmas.Bool.{eq-eqb, or_right}
use Rattle.std.proofs.lemmas.Bool.Decides.{eqb_tells}
use Rattle.std.proofs.lemmas.Option.{none-some, same_Some}
use Rattle.keyframe_model.specs.Models.{Spec}
use Rattle.run_rules.specs.declared.mark.Mark.{Mark}
use Rattle.run_rules.specs.declared.mark.Mark.TheVariants.{OfModel}
use Rattle.run_rules.specs.declared.mark.ModelMark.{ModelMark}
use Rattle.anim_names.specs.Lists.{IsAmong}
use Rattle.tree_commit.proofs.Among.{among-has}
use Rattle.keyframe_effect.specs.Groups.{CanMove, first_row, moved, moved_count, one_if, row_with}
use Rattle.keyframe_effect.specs.States.{is_unfinished, is_waiting}
use Rattle.host_tables.proofs.MarkedLemmas.{marked-advanced, marked-runs, marked-waits, state-marked}
use Rattle.keyframe_effect.specs.declared.group.GroupRow.{GroupRow}
use Rattle.keyframe_effect.specs.declared.state.RunState.{RunState}
use Rattle.host_tables.specs.Groups.{group_row_of, joined_row}
use Rattle.host_tables.proofs.GroupLemmas.{group-can, group-else, group-here, joined-else, joined-here}
use Rattle.keyframe_effect.specs.declared.model.ModelRow.{ModelRow}
use Rattle.keyframe_effect.specs.declared.state.RunState.TheVariants as state
use Rattle.host_tables.specs.Rows.{advanced_row, entered, joined, left, marked_row, state_in}
use Rattle.host_tables.specs.States.{FinishesStarted, advanced, as_marked, is_among, row_for, row_if, state_of}
use Rattle.host_tables.proofs.AmongLemmas.{among-left, among-taken, apart-before, apart-behind, found-there}
use Rattle.host_tables.proofs.StateLemmas.{state-here, state-other}

-- ---- one row

row-same : (active pending : Bool) (marks more : List Mark) (id : ℕ) → state_of more id ≡ state_of marks id
    → row_if active pending marks id ≡ row_if active pending more id
row-same false false marks more id same = refl
row-same false true marks more id same = ap (λ s. Some (record { model = id; state = s; in_active = false; in_pending = true })) (sym same)
row-same true pending marks more id same = ap (λ s. Some (record { model = id; state = s; in_active = true; in_pending = pending })) (sym same)

row-advanced : (active pending : Bool) (marks more : List Mark) (what : ModelMark) (order id : ℕ)
    → state_of more id ≡ advanced (state_of marks id) what order
    → option_map (advanced_row what order) (row_if active pending marks id) ≡ row_if active pending more id
row-advanced false false marks more what order id next = refl
row-advanced false true marks more what order id next = ap (λ s. Some (record { model = id; state = s; in_active = false; in_pending = true })) (sym next)
row-advanced true pending marks more what order id next = ap (λ s. Some (record { model = id; state = s; in_active = true; in_pending = pending })) (sym next)

row-joined : (active pending : Bool) (marks : List Mark) (id : ℕ)
    → (active ≡ false → state_of marks id ≡ state.Waiting)
    → Some (joined id (row_if active pending marks id)) ≡ row_if active true marks id
row-joined true pending marks id waits = refl
row-joined false true marks id waits = refl
row-joined false false marks id waits = ap (λ s. Some (record { model = id; state = s; in_active = false; in_pending = true })) (sym (waits refl))

row-left : (pending : Bool) (marks : List Mark) (id : ℕ) → option_and_then left (row_if true pending marks id) ≡ row_if false pending marks id
row-left true marks id = refl
row-left false marks id = refl

-- ---- all rows

-- one more mark
pub advanced-next : (at new : ℕ → Option ModelRow) (active pending : List Spec) (marks : List Mark) (model : ℕ) (what : ModelMark)
    → ((id : ℕ) → at id ≡ row_for active pending marks id)
    → FinishesStarted marks
    → new model ≡ option_map (advanced_row what (length marks)) (at model)
    → ((id : ℕ) → id ≢ model → new id ≡ at id)
    → (id : ℕ) → new id ≡ row_for active pending (marks ++ OfModel model what ∷ []) id
unfolding row_for
advanced-next at new active pending marks model what stand fits here others id =
    let more = marks ++ OfModel model what ∷ [] in
    elim (eqb_tells id model) [
      | inl t ↦
          ap new t.1
          ∙ here
          ∙ ap (option_map (advanced_row what (length marks))) (stand model)
          ∙ row-advanced (is_among active model) (is_among pending model) marks more what (length marks) model (state-here marks model what fits)
          ∙ ap (λ (n : ℕ). row_if (is_among active n) (is_among pending n) more n) (sym t.1)
      | inr f ↦
          others id f.1
          ∙ stand id
          ∙ row-same (is_among active id) (is_among pending id) marks more id (state-other marks model what id f.1)
    ]

-- one more model of the pending commit
pub joined-next : (at new : ℕ → Option ModelRow) (active pending : List Spec) (marks : List Mark) (i : ℕ) (model : Spec)
    → slice_get pending i ≡ Some model
    → (is_among active model.id ≡ false → state_of marks model.id ≡ state.Waiting)
    → new model.id ≡ Some (joined model.id (at model.id))
    → ((id : ℕ) → id ≢ model.id → new id ≡ at id)
    → ((id : ℕ) → at id ≡ row_for active (take i pending) marks id)
    → (id : ℕ) → new id ≡ row_for active (take (i + 1) pending) marks id
unfolding row_for
joined-next at new active pending marks i model found waits here others stand id =
    elim (eqb_tells id model.id) [
      | inl t ↦
          let there : is_among (take (i + 1) pending) model.id ≡ true =
          ap (λ (k : ℕ). is_among (take k pending) model.id) (add-one i)
          ∙ among-taken pending i model model.id found
          ∙ or_right (is_among (take i pending) model.id) (model.id == model.id) (eq-eqb model.id model.id refl) in
          ap new t.1
          ∙ here
          ∙ ap (λ (o : Option ModelRow). Some (joined model.id o)) (stand model.id)
          ∙ row-joined (is_among active model.id) (is_among (take i pending) model.id) marks model.id waits
          ∙ ap (λ (b : Bool). row_if (is_among active model.id) b marks model.id) (sym there)
          ∙ ap (λ (n : ℕ). row_if (is_among active n) (is_among (take (i + 1) pending) n) marks n) (sym t.1)
      | inr f ↦
          let same : is_among (take (i + 1) pending) id ≡ is_among (take i pending) id =
          ap (λ (k : ℕ). is_among (take k pending) id) (add-one i)
          ∙ among-taken pending i model id found
          ∙ ap (λ b. is_among (take i pending) id || b) f.0
          ∙ or-false (is_among (take i pending) id) in
          others id f.1 ∙ stand id ∙ ap (λ (b : Bool). row_if (is_among active id) b marks id) (sym same)
    ]

-- one fewer model of the active commit
pub left-next : (at new : ℕ → Option ModelRow) (active pending : List Spec) (marks : List Mark) (i : ℕ) (model : Spec)
    → IsDistinct nat_eq (map (λ model. model.id) active)
    → slice_get active i ≡ Some model
    → new model.id ≡ option_and_then left (at model.id)
    → ((id : ℕ) → id ≢ model.id → new id ≡ at id)
    → ((id : ℕ) → at id ≡ row_for (drop i active) pending marks id)
    → (id : ℕ) → new id ≡ row_for (drop (i + 1) active) pending marks id
unfolding row_for
left-next at new active pending marks i model differ found here others stand id =
    elim (eqb_tells id model.id) [
      | inl t ↦
          let was : is_among (drop i active) model.id ≡ true =
          among-left active i model model.id found
          ∙ ap (λ b. b || is_among (drop (i + 1) active) model.id) (eq-eqb model.id model.id refl) in
          let gone : is_among (drop (i + 1) active) model.id ≡ false =
          ap (λ (k : ℕ). is_among (drop k active) model.id) (add-one i) ∙ apart-behind active i model differ found in
          ap new t.1
          ∙ here
          ∙ ap (option_and_then left) (stand model.id)
          ∙ ap (λ (b : Bool). option_and_then left (row_if b (is_among pending model.id) marks model.id)) was
          ∙ row-left (is_among pending model.id) marks model.id
          ∙ ap (λ (b : Bool). row_if b (is_among pending model.id) marks model.id) (sym gone)
          ∙ ap (λ (n : ℕ). row_if (is_among (drop (i + 1) active) n) (is_among pending n) marks n) (sym t.1)
      | inr f ↦
          let same : is_among (drop i active) id ≡ is_among (drop (i + 1) active) id =
          among-left active i model id found ∙ ap (λ b. b || is_among (drop (i + 1) active) id) f.0 in
          others id f.1 ∙ stand id ∙ ap (λ (b : Bool). row_if b (is_among pending id) marks id) same
    ]

-- one more model of the new commit is in the active one instead
pub entered-next : (at new : ℕ → Option ModelRow) (models : List Spec) (marks : List Mark) (i : ℕ) (model : Spec)
    → IsDistinct nat_eq (map (λ model. model.id) models)
    → slice_get models i ≡ Some model
    → new model.id ≡ option_map entered (at model.id)
    → ((id : ℕ) → id ≢ model.id → new id ≡ at id)
    → ((id : ℕ) → at id ≡ row_for (take i models) (drop i models) marks id)
    → (id : ℕ) → new id ≡ row_for (take (i + 1) models) (drop (i + 1) models) marks id
unfolding row_for
entered-next at new models marks i model differ found here others stand id =
    elim (eqb_tells id model.id) [
      | inl t ↦
          let before : is_among (take i models) model.id ≡ false = apart-before models i model differ found in
          let was : is_among (drop i models) model.id ≡ true =
          among-left models i model model.id found
          ∙ ap (λ b. b || is_among (drop (i + 1) models) model.id) (eq-eqb model.id model.id refl) in
          let gone : is_among (drop (i + 1) models) model.id ≡ false =
          ap (λ (k : ℕ). is_among (drop k models) model.id) (add-one i) ∙ apart-behind models i model differ found in
          let now : is_among (take (i + 1) models) model.id ≡ true =
          ap (λ (k : ℕ). is_among (take k models) model.id) (add-one i)
          ∙ among-taken models i model model.id found
          ∙ ap (λ b. b || (model.id == model.id)) before
          ∙ eq-eqb model.id model.id refl in
          ap new t.1
          ∙ here
          ∙ ap (option_map entered) (stand model.id)
          ∙ ap (λ (b : Bool). option_map entered (row_if b (is_among (drop i models) model.id) marks model.id)) before
          ∙ ap (λ (b : Bool). option_map entered (row_if false b marks model.id)) was
          ∙ ap (λ (b : Bool). row_if true b marks model.id) (sym gone)
          ∙ ap (λ (b : Bool). row_if b (is_among (drop (i + 1) models) model.id) marks model.id) (sym now)
          ∙ ap (λ (n : ℕ). row_if (is_among (take (i + 1) models) n) (is_among (drop (i + 1) models) n) marks n) (sym t.1)
      | inr f ↦
          let left : is_among (drop i models) id ≡ is_among (drop (i + 1) models) id =
          among-left models i model id found ∙ ap (λ b. b || is_among (drop (i + 1) models) id) f.0 in
          let taken : is_among (take (i + 1) models) id ≡ is_among (take i models) id =
          ap (λ (k : ℕ). is_among (take k models) id) (add-one i)
          ∙ among-taken models i model id found
          ∙ ap (λ b. is_among (take i models) id || b) f.0
          ∙ or-false (is_among (take i models) id) in
          others id f.1
          ∙ stand id
          ∙ ap (λ (b : Bool). row_if (is_among (take i models) id) b marks id) left
          ∙ ap (λ (b : Bool). row_if b (is_among (drop (i + 1) models) id) marks id) (sym taken)
    ]

-- ---- what a row says

read-state : (active pending : Bool) (marks : List Mark) (id : ℕ) (row : ModelRow)
    → Some row ≡ row_if active pending marks id → row.state ≡ state_of marks id
read-state false false marks id row is = absurd (none-some row (sym is))
read-state false true marks id row is = ap (λ r. r.state) (same_Some _ _ is)
read-state true pending marks id row is = ap (λ r. r.state) (same_Some _ _ is)

read-active : (active pending : Bool) (marks : List Mark) (id : ℕ) (row : ModelRow)
    → Some row ≡ row_if active pending marks id → row.in_active ≡ active
read-active false false marks id row is = absurd (none-some row (sym is))
read-active false true marks id row is = ap (λ r. r.in_active) (same_Some _ _ is)
read-active true pending marks id row is = ap (λ r. r.in_active) (same_Some _ _ is)

read-none : (active pending : Bool) (marks : List Mark) (id : ℕ) → None ≡ row_if active pending marks id → active ≡ false
read-none false false marks id is = refl
read-none false true marks id is = absurd (none-some _ is)
read-none true pending marks id is = absurd (none-some _ is)

-- a row says what the marks say
pub row-state : (active pending : List Spec) (marks : List Mark) (id : ℕ) (row : ModelRow)
    → Some row ≡ row_for active pending marks id → row.state ≡ state_of marks id
unfolding row_for
row-state active pending marks id row is = read-state (is_among active id) (is_among pending id) marks id row is

-- so does what is read of a model of the active commit
pub row-stated : (active pending : List Spec) (marks : List Mark) (id : ℕ) → is_among active id ≡ true
    → state_in (row_for active pending marks id) ≡ state_of marks id
unfolding row_for
row-stated active pending marks id there = ap (λ b. state_in (row_if b (is_among pending id) marks id)) there

-- and whether its model is in the active commit
pub row-active : (active pending : List Spec) (marks : List Mark) (id : ℕ) (row : ModelRow)
    → Some row ≡ row_for active pending marks id → row.in_active ≡ is_among active id
unfolding row_for
row-active active pending marks id row is = read-active (is_among active id) (is_among pending id) marks id row is

-- a model with no row is not in the active commit
pub row-none : (active pending : List Spec) (marks : List Mark) (id : ℕ)
    → None ≡ row_for active pending marks id → is_among active id ≡ false
unfolding row_for
row-none active pending marks id is = read-none (is_among active id) (is_among pending id) marks id is

-- no row where there is no model
pub row-nowhere : (marks : List Mark) (id : ℕ) → row_for [] [] marks id ≡ None
unfolding row_for
row-nowhere marks id = refl

-- ---- the rows of the groups

module _ (at : ℕ → Option GroupRow) (models pending : List Spec) (rows : ℕ → Option ModelRow) (marks : List Mark) (what : ModelMark) (model : Spec)
    (before after : RunState) (differ : IsDistinct nat_eq (map (λ m. m.id) models)) (there : IsAmong model models)
    (fits : FinishesStarted marks) (more : FinishesStarted (marks ++ OfModel model.id what ∷ []))
    (stand : (id : ℕ) → option_map marked_row (rows id) ≡ row_for models pending marks id)
    (was : before ≡ state_in (rows model.id)) (is : after ≡ advanced before what (length marks))
    (counts : (group : ℕ) → at group ≡ group_row_of models marks group)
  where
    had : as_marked before ≡ state_of marks model.id
    had =
        ap as_marked was
        ∙ state-marked (rows model.id)
        ∙ ap state_in (stand model.id)
        ∙ row-stated models pending marks model.id (among-has model models there)

    has : as_marked after ≡ state_of (marks ++ OfModel model.id what ∷ []) model.id
    has =
        ap as_marked is
        ∙ marked-advanced before what (length marks)
        ∙ ap (λ s. advanced s what (length marks)) had
        ∙ sym (state-here marks model.id what fits)

    -- what a row makes of a step is what it makes of it as the marks know it
    moves-marked : (o : Option GroupRow) → option_map (moved before after) o ≡ option_map (moved (as_marked before) (as_marked after)) o
    moves-marked o = λ i.
        option_map
        (λ (row : GroupRow). record row {
          waiting = moved_count (marked-waits before i) (marked-waits after i) row.waiting;
          unfinished = moved_count (marked-runs before i) (marked-runs after i) row.unfinished;
        })
        o

    can-marked : (most : ℕ) (o : Option GroupRow) → IfSome o (CanMove most (as_marked before) (as_marked after)) → IfSome o (CanMove most before after)
    can-marked most None can = tt
    can-marked most (Some row) can = record {
      waited = subst (λ (b : Bool). one_if b ≤ row.waiting) (sym (marked-waits before)) can.waited;
      ran = subst (λ (b : Bool). one_if b ≤ row.unfinished) (sym (marked-runs before)) can.ran;
      waiting =
          subst (λ (b : Bool). row.waiting + one_if b ≤ most + one_if (is_waiting before)) (sym (marked-waits after))
          (subst (λ (b : Bool). row.waiting + one_if (is_waiting (as_marked after)) ≤ most + one_if b) (sym (marked-waits before)) can.waiting);
      unfinished =
          subst (λ (b : Bool). row.unfinished + one_if b ≤ most + one_if (is_unfinished before)) (sym (marked-runs after))
          (subst (λ (b : Bool). row.unfinished + one_if (is_unfinished (as_marked after)) ≤ most + one_if b) (sym (marked-runs before)) can.unfinished);
    }

    -- the row of the model's group can take the step
    pub counted-can : (most : ℕ) → length models ≤ most → IfSome (at model.group) (CanMove most before after)
    counted-can most few =
        subst (λ (o : Option GroupRow). IfSome o (CanMove most before after)) (sym (counts model.group))
        (can-marked most (group_row_of models marks model.group)
        (group-can models marks what model differ there fits more (as_marked before) (as_marked after) most had has few))

    -- one more mark
    pub counted-next : (new : ℕ → Option GroupRow)
        → new model.group ≡ option_map (moved before after) (at model.group)
        → ((group : ℕ) → group ≢ model.group → new group ≡ at group)
        → (group : ℕ) → new group ≡ group_row_of models (marks ++ OfModel model.id what ∷ []) group
    counted-next new here others group =
        elim (eqb_tells group model.group) [
          | inl t ↦
              ap new t.1
              ∙ here
              ∙ ap (option_map (moved before after)) (counts model.group)
              ∙ moves-marked (group_row_of models marks model.group)
              ∙ sym (group-here models marks what model differ there fits more (as_marked before) (as_marked after) had has)
              ∙ ap (group_row_of models (marks ++ OfModel model.id what ∷ [])) (sym t.1)
          | inr f ↦
              others group f.1
              ∙ counts group
              ∙ sym (group-else models marks what model differ there fits more group f.1)
        ]

joins-marked : (model : Spec) (state : RunState) (o : Option GroupRow) → joined_row model state o ≡ joined_row model (as_marked state) o
joins-marked model state None = λ i. record (first_row model state) { waiting = one_if (marked-waits state i); unfinished = one_if (marked-runs state i) }
joins-marked model state (Some row) = λ i.
    record (row_with model state row) {
      waiting = row.waiting + one_if (marked-waits state i);
      unfinished = row.unfinished + one_if (marked-runs state i);
    }

-- one more model of the commit
pub joined-group-next : (at new : ℕ → Option GroupRow) (models : List Spec) (marks : List Mark) (i : ℕ) (model : Spec) (state : RunState)
    (rows : ℕ → Option ModelRow)
    → slice_get models i ≡ Some model
    → FinishesStarted marks
    → ((id : ℕ) → option_map marked_row (rows id) ≡ row_for models [] marks id)
    → state ≡ state_in (rows model.id)
    → new model.group ≡ Some (joined_row model state (at model.group))
    → ((group : ℕ) → group ≢ model.group → new group ≡ at group)
    → ((group : ℕ) → at group ≡ group_row_of (take i models) marks group)
    → (group : ℕ) → new group ≡ group_row_of (take (i + 1) models) marks group
joined-group-next at new models marks i model state rows found fits stand was here others counts group =
    let had : as_marked state ≡ state_of marks model.id =
    ap as_marked was ∙ state-marked (rows model.id) ∙ ap state_in (stand model.id) ∙ row-stated models [] marks model.id (found-there models i model found) in
    elim (eqb_tells group model.group) [
      | inl t ↦
          ap new t.1
          ∙ here
          ∙ ap (λ (o : Option GroupRow). Some (joined_row model state o)) (counts model.group)
          ∙ ap Some (joins-marked model state (group_row_of (take i models) marks model.group))
          ∙ sym (joined-here models i model found marks (as_marked state) fits had)
          ∙ ap (λ (k : ℕ). group_row_of (take k models) marks model.group) (sym (add-one i))
          ∙ ap (group_row_of (take (i + 1) models) marks) (sym t.1)
      | inr f ↦
          others group f.1
          ∙ counts group
          ∙ sym (joined-else models i model found marks group f.1)
          ∙ ap (λ (k : ℕ). group_row_of (take k models) marks group) (sym (add-one i))
    ]

-- no rows where there are no models
pub group-nowhere : (marks : List Mark) (group : ℕ) → group_row_of [] marks group ≡ None
unfolding group_row_of
group-nowhere marks group = refl

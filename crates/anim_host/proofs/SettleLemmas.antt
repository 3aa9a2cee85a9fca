-- The marks of whole steps: what ended had started, and groups start as a whole.
use Rattle.std.proofs.Common.{◌≡◌, ◌≢◌, ◌⊎◌, ℕ, ◌<◌, Bool, true, false, not, ◌||◌, List, [], ◌∷◌, ◌++◌, map, filter, Option, Some, None, refl, sym, ap, ◌∙◌, cond, subst, append_assoc, inl, inr, zero, suc}
use Rattle.std.specs.Prelude.{◌==◌, ◌&&◌, slice_get, if◌then◌else◌}
use Rattle.std.specs.List.{list_all, list_any, cons_option, AllByRecursion}
use Rattle.std.proofs.Math.Bool.{or-false}
use Rattle.std.proofs.lemmas.Bool.{and_parts, both_ways, eq-eqb, eqb-true, not-true, or_parts, or_right, true≢false}
use Rattle.std.proofs.lemmas.Bool.Decides.{eqb_tells}
use Rattle.std.proofs.lemmas.List.{append-nil}
use Rattle.std.proofs.lemmas.List.Elements.{filter_map-append}
use Rattle.std.proofs.lemmas.List.Folds.{list_any-append}
use Rattle.std.proofs.lemmas.Option.{none-some, same_Some}
use Rattle.anim_names.specs.Lists.{IsAmong}
use Rattle.keyframe_model.specs.Models.{Spec, property_of}
use Rattle.tree_commit.specs.Trees.{Committed, TreeLists, has_element, has_group, has_model, members_of}
use Rattle.tree_commit.proofs.Among.{all-among, among-filter, among-filter_from, among-has, among-last, among-map, among-map_cases, any-among, any-cases}
use Rattle.run_rules.specs.declared.mark.Begun.{Begun}
use Rattle.run_rules.specs.declared.mark.Mark.{Mark}
use Rattle.run_rules.specs.declared.mark.Mark.TheVariants.{OfModel}
use Rattle.run_rules.specs.declared.mark.ModelMark.{ModelMark}
use Rattle.run_rules.specs.declared.mark.ModelMark.TheVariants.{Started, Aborted}
use Rattle.run_rules.specs.Follows.{Follows}
use Rattle.run_rules.specs.Marks.{ends, is_blocked_for, is_end, is_ended, is_group_unfinished, is_lost, is_ready, is_started, marks_of_activation, may_start, pending_allows, start_mark, starts, starts_in}
use Rattle.host_tables.specs.CommitGroups.{at_indices}
use Rattle.host_tables.specs.States.{is_among}
use Rattle.host_tables.proofs.CommitGroupsLemmas.{below-append}
use Rattle.host_tables.proofs.StateLemmas.{ended-marked, ended-more, started-grows}
use Rattle.anim_host.specs.Fits.{AreSettled, IsThereIfUnfinished, MarksFitModels, MayStartIn}
use Rattle.anim_host.proofs.BlockLemmas.{among-model, ends-of, none-blocks, running-starts, start-runs, started-group-of}
use Rattle.anim_host.proofs.FitLemmas.{any-more, both-ways}
use Rattle.run_rules.proofs.MarkLemmas.{end-began}

or-either : {A : Type 0} (a b : Bool) → (a || b) ≡ true → (a ≡ true → A) → (b ≡ true → A) → A
or-either true b is one two = one refl
or-either false b is one two = two is

-- a model that started ends
pub settled-end : (models : List Spec) (marks : List Mark) (what : ModelMark) (model : Spec) → AreSettled models marks → is_end what ≡ true
    → is_started marks model.id ≡ true → AreSettled models (marks ++ OfModel model.id what ∷ [])
settled-end models marks what model settled end began =
    let mark = OfModel model.id what in
    record {
      ended = λ other there is.
          or-either (is_ended marks other.id) (ends other.id mark) (sym (ended-more marks mark other.id) ∙ is)
          (λ before. started-grows marks mark other.id (settled.ended other there before))
          (λ now.
          let same : other.id ≡ model.id = eqb-true other.id model.id (sym (ends-of what model.id other.id end) ∙ now) in
          started-grows marks mark other.id (ap (is_started marks) same ∙ began));
      together = λ other there is.
          elim (any-more (starts_in other.group) marks mark is) [
            | inl before ↦ started-grows marks mark other.id (settled.together other there before)
            | inr last ↦ absurd (true≢false (sym last ∙ end-began (λ begun. other.group == begun.group) what end))
          ];
    }

-- ---- a group starts

-- starts leave what ended
pub starts-keep : (tree : TreeLists) (tick : ℕ) (marks : List Mark) (models : List Spec) (id : ℕ)
    → is_ended (marks ++ map (start_mark tree tick) models) id ≡ is_ended marks id
starts-keep tree tick marks [] id = ap (λ (l : List Mark). is_ended l id) (append-nil marks)
starts-keep tree tick marks (model ∷ models) id =
    ap (λ (l : List Mark). is_ended l id) (sym (append_assoc marks (start_mark tree tick model ∷ []) (map (start_mark tree tick) models)))
    ∙ starts-keep tree tick (marks ++ start_mark tree tick model ∷ []) models id
    ∙ ended-more marks (start_mark tree tick model) id
    ∙ or-false (is_ended marks id)

-- what started stays started
starts-grow : (tree : TreeLists) (tick : ℕ) (marks : List Mark) (models : List Spec) (id : ℕ) → is_started marks id ≡ true
    → is_started (marks ++ map (start_mark tree tick) models) id ≡ true
starts-grow tree tick marks [] id is = ap (λ (l : List Mark). is_started l id) (append-nil marks) ∙ is
starts-grow tree tick marks (model ∷ models) id is =
    ap (λ (l : List Mark). is_started l id) (sym (append_assoc marks (start_mark tree tick model ∷ []) (map (start_mark tree tick) models)))
    ∙ starts-grow tree tick (marks ++ start_mark tree tick model ∷ []) models id (started-grows marks (start_mark tree tick model) id is)

-- each of them started
starts-begin : (tree : TreeLists) (tick : ℕ) (marks : List Mark) (models : List Spec) (model : Spec) → IsAmong model models
    → is_started (marks ++ map (start_mark tree tick) models) model.id ≡ true
starts-begin tree tick marks [] model there = absurd there
starts-begin tree tick marks (first ∷ models) model there =
    ap (λ (l : List Mark). is_started l model.id) (sym (append_assoc marks (start_mark tree tick first ∷ []) (map (start_mark tree tick) models)))
    ∙ elim there [
      | inl same ↦
          starts-grow tree tick (marks ++ start_mark tree tick first ∷ []) models model.id
          (any-among (starts model.id) (start_mark tree tick first) (marks ++ start_mark tree tick first ∷ []) (among-last (start_mark tree tick first) marks)
          (eq-eqb model.id first.id (ap (λ (m : Spec). m.id) same)))
      | inr rest ↦ starts-begin tree tick (marks ++ start_mark tree tick first ∷ []) models model rest
    ]

-- which groups have started then
starts-groups : (tree : TreeLists) (tick group other : ℕ) (marks : List Mark) (models : List Spec)
    → ((m : Spec) → IsAmong m models → group ≡ m.group)
    → list_any (starts_in other) (marks ++ map (start_mark tree tick) models) ≡ true
    → other ≢ group
    → list_any (starts_in other) marks ≡ true
starts-groups tree tick group other marks [] own is differ = ap (list_any (starts_in other)) (sym (append-nil marks)) ∙ is
starts-groups tree tick group other marks (model ∷ models) own is differ =
    elim (any-more (starts_in other) marks (start_mark tree tick model)
    (starts-groups tree tick group other (marks ++ start_mark tree tick model ∷ []) models (λ m there. own m (inr there))
    (ap (list_any (starts_in other)) (append_assoc marks (start_mark tree tick model ∷ []) (map (start_mark tree tick) models)) ∙ is) differ)) [
      | inl before ↦ before
      | inr now ↦ absurd (differ (eqb-true other model.group now ∙ sym (own model (inl refl))))
    ]

pub settled-group : (tree : TreeLists) (tick group : ℕ) (marks : List Mark) → AreSettled tree.models marks
    → AreSettled tree.models (marks ++ map (start_mark tree tick) (filter (λ m. group == m.group) tree.models))
settled-group tree tick group marks settled = record {
  ended = λ model there is.
      starts-grow tree tick marks (filter (λ m. group == m.group) tree.models) model.id
      (settled.ended model there (sym (starts-keep tree tick marks (filter (λ m. group == m.group) tree.models) model.id) ∙ is));
  together = λ model there is.
      elim (eqb_tells group model.group) [
        | inl t ↦
            starts-begin tree tick marks (filter (λ m. group == m.group) tree.models) model
            (among-filter_from (λ (m : Spec). group == m.group) model tree.models there t.0)
        | inr f ↦
            starts-grow tree tick marks (filter (λ m. group == m.group) tree.models) model.id
            (settled.together model there
            (starts-groups tree tick group model.group marks (filter (λ m. group == m.group) tree.models)
            (λ m its. eqb-true group m.group (among-filter (λ (m : Spec). group == m.group) m tree.models its).1) is (λ same. f.1 (sym same))))
      ];
}

-- a model of a group that has not started has not ended
pub not-ended : (models : List Spec) (marks : List Mark) (model : Spec) → MarksFitModels models marks → AreSettled models marks → IsAmong model models
    → list_any (starts_in model.group) marks ≡ false → is_ended marks model.id ≡ false
not-ended models marks model fit settled there none = either (is_ended marks model.id) refl
  where
    either : (b : Bool) → is_ended marks model.id ≡ b → is_ended marks model.id ≡ false
    either true is = absurd (both_ways (list_any (starts_in model.group) marks) none (started-group-of models marks model fit there (settled.ended model there is)))
    either false is = is

-- ---- by index

pub at-among : (models : List Spec) (indices : List ℕ) (j index : ℕ) (model : Spec) → slice_get indices j ≡ Some index → slice_get models index ≡ Some model
    → IsAmong model (at_indices models indices)
at-among models [] j index model found is = absurd (none-some index found)
at-among models (p ∷ indices) zero index model found is = here (slice_get models p) (ap (slice_get models) (same_Some p index found) ∙ is)
  where
    here : (o : Option Spec) → o ≡ Some model → IsAmong model (cons_option o (at_indices models indices))
    here None is = absurd (none-some model is)
    here (Some m) is = inl (sym (same_Some m model is))
at-among models (p ∷ indices) (suc j) index model found is = later (slice_get models p) (at-among models indices j index model found is)
  where
    later : (o : Option Spec) → IsAmong model (at_indices models indices) → IsAmong model (cons_option o (at_indices models indices))
    later None there = there
    later (Some m) there = inr there

-- ---- what a group tells

-- a group has started exactly where one of its models has
pub started-tells : (models : List Spec) (marks : List Mark) (model : Spec) → MarksFitModels models marks → AreSettled models marks → IsAmong model models
    → is_started marks model.id ≡ list_any (starts_in model.group) marks
started-tells models marks model fit settled there =
    both-ways (is_started marks model.id) (list_any (starts_in model.group) marks) (started-group-of models marks model fit there) (settled.together model there)

-- a model of a group that is ready may start with it
pub may-start-in : (tree : TreeLists) (pending : Option Committed) (marks : List Mark) (group : ℕ) (model : Spec)
    → MarksFitModels tree.models marks → AreSettled tree.models marks
    → is_ready tree pending marks group ≡ true
    → IsAmong model (filter (λ m. group == m.group) tree.models)
    → MayStartIn group tree marks model
unfolding is_ready
may-start-in tree pending marks group model fit settled ready among =
    let its = among-filter (λ (m : Spec). group == m.group) model tree.models among in
    let own : group ≡ model.group = eqb-true group model.group its.1 in
    let front = (and_parts (has_group tree group && not (list_any (starts_in group) marks)) (list_all (may_start tree pending marks) (members_of tree group)) ready).0 in
    let none : list_any (starts_in group) marks ≡ false = not-true (list_any (starts_in group) marks) (and_parts (has_group tree group) (not (list_any (starts_in group) marks)) front).1 in
    let may = all-among (may_start tree pending marks) model (members_of tree group)
    (and_parts (has_group tree group && not (list_any (starts_in group) marks)) (list_all (may_start tree pending marks) (members_of tree group)) ready).1 among in
    let two = (and_parts (has_element tree model.element && pending_allows pending model.group model.element) (not (is_blocked_for marks model.group model.element (property_of model))) may).0 in
    let free = not-true (is_blocked_for marks model.group model.element (property_of model))
    (and_parts (has_element tree model.element && pending_allows pending model.group model.element) (not (is_blocked_for marks model.group model.element (property_of model))) may).1 in
    record {
      own = sym own;
      alive = not-ended tree.models marks model fit settled its.0 (ap (λ (g : ℕ). list_any (starts_in g) marks) (sym own) ∙ none);
      present = (and_parts (has_element tree model.element) (pending_allows pending model.group model.element) two).0;
      free = λ other differ. none-blocks marks model.group model.element (property_of model) other free (λ same. differ (same ∙ sym own));
    }

pub ready-waits : (tree : TreeLists) (pending : Option Committed) (marks : List Mark) (group : ℕ) → is_ready tree pending marks group ≡ true
    → list_any (starts_in group) marks ≡ false
unfolding is_ready
ready-waits tree pending marks group ready =
    not-true (list_any (starts_in group) marks)
    (and_parts (has_group tree group) (not (list_any (starts_in group) marks))
    (and_parts (has_group tree group && not (list_any (starts_in group) marks)) (list_all (may_start tree pending marks) (members_of tree group)) ready).0).1

-- a group that has not started does not run
pub waits-whole : (marks : List Mark) (group : ℕ) → list_any (starts_in group) marks ≡ false → list_any (starts_in group) marks ≡ is_group_unfinished marks group
waits-whole marks group none = none ∙ sym (either (is_group_unfinished marks group) refl)
  where
    either : (b : Bool) → is_group_unfinished marks group ≡ b → is_group_unfinished marks group ≡ false
    either true is = absurd (both_ways (list_any (starts_in group) marks) none (running-starts marks group is))
    either false is = is

-- one that has just started a model does
pub start-whole : (marks : List Mark) (id : ℕ) (begun : Begun) → is_ended marks id ≡ false
    → list_any (starts_in begun.group) (marks ++ OfModel id (Started begun) ∷ [])
    ≡ is_group_unfinished (marks ++ OfModel id (Started begun) ∷ []) begun.group
start-whole marks id begun alive =
    let runs = start-runs marks id begun alive in
    running-starts (marks ++ OfModel id (Started begun) ∷ []) begun.group runs ∙ sym runs

-- ---- a group's indices

pub no-indices : (models : List Spec) (group : ℕ) → filter (λ m. group == m.group) models ≡ [] → list_any (λ m. group == m.group) models ≡ false
no-indices models group none = either (list_any (λ m. group == m.group) models) refl
  where
    either : (b : Bool) → list_any (λ m. group == m.group) models ≡ b → list_any (λ m. group == m.group) models ≡ false
    either false is = is
    either true is =
        let found = any-cases (λ (m : Spec). group == m.group) models is in
        let there = among-filter_from (λ (m : Spec). group == m.group) found.0 models found.1 found.2 in
        absurd (subst (λ (ms : List Spec). IsAmong found.0 ms) none there)

pub at-pushed : (models : List Spec) (indices : List ℕ) (index : ℕ) (model : Spec) (b : Bool) → slice_get models index ≡ Some model
    → at_indices models (indices ++ (if b then index ∷ [] else [])) ≡ at_indices models indices ++ (if b then model ∷ [] else [])
at-pushed models indices index model true found =
    filter_map-append (slice_get models) indices (index ∷ []) ∙ ap (λ (o : Option Spec). at_indices models indices ++ cons_option o []) found
at-pushed models indices index model false found = ap (at_indices models) (append-nil indices) ∙ sym (append-nil (at_indices models indices))

pub below-pushed : (n index : ℕ) (indices : List ℕ) (b : Bool) → index < n → AllByRecursion (λ p. p < n) indices
    → AllByRecursion (λ p. p < n) (indices ++ (if b then index ∷ [] else []))
below-pushed n index indices true lt all = below-append n index indices lt all
below-pushed n index indices false lt all = subst (AllByRecursion (λ p. p < n)) (sym (append-nil indices)) all

pub gives-model : (test : Spec → Bool) (model : Spec) (models : List Spec) (b : Bool)
    → cond b (model ∷ filter test models) (filter test models) ≡ (if b then model ∷ [] else []) ++ filter test models
gives-model test model models true = refl
gives-model test model models false = refl

-- ---- an activation

-- what is lost has ended
lost-ended : (active : TreeLists) (new : Committed) (marks : List Mark) (model : Spec) → IsAmong model active.models → is_lost new.tree marks model ≡ true
    → is_ended (marks ++ map (λ (m : Spec). OfModel m.id (Aborted new.number)) (filter (is_lost new.tree marks) active.models)) model.id ≡ true
lost-ended active new marks model there lost =
    let new_marks = map (λ (m : Spec). OfModel m.id (Aborted new.number)) (filter (is_lost new.tree marks) active.models) in
    list_any-append (ends model.id) marks new_marks
    ∙ or_right (is_ended marks model.id) (list_any (ends model.id) new_marks)
    (any-among (ends model.id) (OfModel model.id (Aborted new.number)) new_marks
    (among-map (λ (m : Spec). OfModel m.id (Aborted new.number)) model (filter (is_lost new.tree marks) active.models) (among-filter_from (is_lost new.tree marks) model active.models there lost))
    (eq-eqb model.id model.id refl))

-- what has ended had, or is lost
ended-after : (active : TreeLists) (new : Committed) (marks : List Mark) (id : ℕ)
    → is_ended (marks ++ map (λ (m : Spec). OfModel m.id (Aborted new.number)) (filter (is_lost new.tree marks) active.models)) id ≡ true
    → (is_ended marks id ≡ true) ⊎ ((model : Spec) × IsAmong model active.models × (is_lost new.tree marks model ≡ true) × (id ≡ model.id))
ended-after active new marks id is =
    let new_marks = map (λ (m : Spec). OfModel m.id (Aborted new.number)) (filter (is_lost new.tree marks) active.models) in
    or-either (is_ended marks id) (list_any (ends id) new_marks) (sym (list_any-append (ends id) marks new_marks) ∙ is)
    (λ before. inl before)
    (λ now.
    let by = any-cases (ends id) new_marks now in
    let lost = among-map_cases (λ (m : Spec). OfModel m.id (Aborted new.number)) by.0 (filter (is_lost new.tree marks) active.models) by.1 in
    let its = among-filter (is_lost new.tree marks) lost.0 active.models lost.1 in
    inr (lost.0, its.0, its.1, eqb-true id lost.0.id (sym (ap (ends id) lost.2) ∙ by.2)))

-- each model that still runs is in the new commit
over-there : (active : TreeLists) (new : Committed) (marks : List Mark) (id : ℕ) → is_among active.models id ≡ true
    → is_ended (marks ++ map (λ (m : Spec). OfModel m.id (Aborted new.number)) (filter (is_lost new.tree marks) active.models)) id ≡ false
    → is_among new.tree.models id ≡ true
over-there active new marks id there alive =
    let model = among-model active.models id there in
    either model.0 model.1 model.2 (has_model new.tree model.0.id) refl
  where
    before : is_ended marks id ≡ false
    before =
        (or_parts (is_ended marks id) (list_any (ends id) (map (λ (m : Spec). OfModel m.id (Aborted new.number)) (filter (is_lost new.tree marks) active.models)))
        (sym (list_any-append (ends id) marks (map (λ (m : Spec). OfModel m.id (Aborted new.number)) (filter (is_lost new.tree marks) active.models))) ∙ alive)).0

    either : (model : Spec) → IsAmong model active.models → model.id ≡ id → (b : Bool) → has_model new.tree model.id ≡ b → is_among new.tree.models id ≡ true
    either model among same true is = ap (has_model new.tree) (sym same) ∙ is
    either model among same false is =
        let lost : is_lost new.tree marks model ≡ true =
        ap (λ b. not b && (not (has_model new.tree model.id) || (is_started marks model.id && not (has_element new.tree model.element)))) (ap (is_ended marks) same ∙ before)
        ∙ ap (λ b. not b || (is_started marks model.id && not (has_element new.tree model.element))) is in
        absurd (both_ways (is_ended (marks ++ map (λ (m : Spec). OfModel m.id (Aborted new.number)) (filter (is_lost new.tree marks) active.models)) id) alive (ap (is_ended (marks ++ map (λ (m : Spec). OfModel m.id (Aborted new.number)) (filter (is_lost new.tree marks) active.models))) (sym same) ∙ lost-ended active new marks model among lost))

running-over-mark : (active : TreeLists) (new : Committed) (marks : List Mark) (mark : Mark)
    → IsThereIfUnfinished active.models (marks ++ map (λ (m : Spec). OfModel m.id (Aborted new.number)) (filter (is_lost new.tree marks) active.models)) mark
    → IsThereIfUnfinished new.tree.models (marks ++ map (λ (m : Spec). OfModel m.id (Aborted new.number)) (filter (is_lost new.tree marks) active.models)) mark
running-over-mark active new marks (OfModel id what) there = λ start alive. over-there active new marks id (there start alive) alive

pub running-over : (active : TreeLists) (new : Committed) (marks : List Mark)
    → MarksFitModels active.models (marks ++ marks_of_activation active new marks)
    → (mark : Mark) → IsAmong mark (marks ++ marks_of_activation active new marks)
    → IsThereIfUnfinished new.tree.models (marks ++ marks_of_activation active new marks) mark
unfolding marks_of_activation
running-over active new marks fit mark among = running-over-mark active new marks mark (fit.unfinished mark among)

-- aborts start nothing
aborts-start : (number group : ℕ) (models : List Spec) → list_any (starts_in group) (map (λ (m : Spec). OfModel m.id (Aborted number)) models) ≡ false
aborts-start number group [] = refl
aborts-start number group (m ∷ models) = aborts-start number group models

grows-by : (marks more : List Mark) (id : ℕ) → is_started marks id ≡ true → is_started (marks ++ more) id ≡ true
grows-by marks more id is = list_any-append (starts id) marks more ∙ ap (λ b. b || list_any (starts id) more) is

-- whole steps lead to the new commit
pub settled-over : (active : TreeLists) (new : Committed) (marks : List Mark)
    → Follows active new.tree (marks ++ marks_of_activation active new marks)
    → AreSettled active.models marks
    → AreSettled new.tree.models (marks ++ marks_of_activation active new marks)
unfolding marks_of_activation
settled-over active new marks follows settled =
    let more = map (λ (m : Spec). OfModel m.id (Aborted new.number)) (filter (is_lost new.tree marks) active.models) in
    record {
      ended = λ model there is.
          let here : IsAmong model active.models = follows.marked model there (ended-marked (marks ++ more) model.id is) in
          elim (ended-after active new marks model.id is) [
            | inl before ↦ grows-by marks more model.id (settled.ended model here before)
            | inr now ↦
                let twin : now.0 ≡ model = follows.one_model now.0 model now.1 there (sym now.3) in
                let lost : is_lost new.tree marks model ≡ true = ap (is_lost new.tree marks) (sym twin) ∙ now.2 in
                let kept : has_model new.tree model.id ≡ true = among-has model new.tree.models there in
                let rest = (and_parts (not (is_ended marks model.id)) (not (has_model new.tree model.id) || (is_started marks model.id && not (has_element new.tree model.element))) lost).1 in
                grows-by marks more model.id
                (and_parts (is_started marks model.id) (not (has_element new.tree model.element))
                (sym (ap (λ b. not b || (is_started marks model.id && not (has_element new.tree model.element))) kept) ∙ rest)).0
          ];
      together = λ model there is.
          let here : IsAmong model active.models = follows.group_started model there is in
          grows-by marks more model.id
          (settled.together model here
          (or-either (list_any (starts_in model.group) marks) (list_any (starts_in model.group) more) (sym (list_any-append (starts_in model.group) marks more) ∙ is)
          (λ before. before)
          (λ now. absurd (both_ways (list_any (starts_in model.group) more) (aborts-start new.number model.group (filter (is_lost new.tree marks) active.models)) now))));
    }

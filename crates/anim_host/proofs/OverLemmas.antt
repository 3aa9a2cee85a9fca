-- Models that are done: they stay done as ticks come, as marks come and as a commit takes over.
use Rattle.std.proofs.Common.{◌≡◌, ◌≢◌, ℕ, ◌≤◌, true, List, [], ◌∷◌, ◌++◌, map, Option, Some, None, refl, sym, ap, ◌∙◌, nat_eq, inl, inr}
use Rattle.std.specs.Prelude.{◌-ℤ◌, option_map, IsTrue}
use Rattle.std.specs.List.{IsDistinct}
use Rattle.std.proofs.lemmas.Bool.Decides.{eqb_tells}
use Rattle.anim_timeline.specs.Timelines.{timeline_time}
use Rattle.micro_time.specs.Timings.{is_done}
use Rattle.keyframe_model.specs.Models.{Spec}
use Rattle.keyframe_effect.specs.States as effect
use Rattle.run_rules.specs.declared.mark.Mark.{Mark}
use Rattle.run_rules.specs.declared.mark.Mark.TheVariants.{OfModel}
use Rattle.run_rules.specs.declared.mark.ModelMark.{ModelMark}
use Rattle.tree_commit.specs.declared.shown.Shown.{Shown}
use Rattle.run_rules.specs.Follows.{Follows, has_mark}
use Rattle.anim_names.specs.Lists.{IsAmong}
use Rattle.run_rules.specs.Marks.{is_over, is_unfinished, is_started, start_of}
use Rattle.tree_commit.specs.Tables.{HasAllTimelines, has_timeline}
use Rattle.tree_commit.specs.Trees.{TreeLists, origin_of}
use Rattle.tree_commit.proofs.OverLemmas.{over-later as stays-over}
use Rattle.tree_commit.proofs.Among.{each-found, one-model}
use Rattle.keyframe_effect.specs.declared.model.ModelRow.{ModelRow}
use Rattle.host_tables.specs.Rows.{advanced_row, marked_row, says_over}
use Rattle.host_tables.specs.States.{row_for}
use Rattle.host_tables.proofs.AmongLemmas.{index-of}
use Rattle.host_tables.proofs.MarkedLemmas.{marked-runs, over-runs, row-over-advanced}
use Rattle.host_tables.proofs.StateLemmas.{running-started, start-kept, started-marked, state-runs}
use Rattle.anim_host.specs.Standing.{IsOver}
use Rattle.anim_host.proofs.StandLemmas.{row-state}

-- ---- a later tick

over-since : (tree : TreeLists) (tick later : ℕ) (model : Spec) (shown : Option Shown) → tick ≤ later
    → is_over tree tick model shown ≡ true → is_over tree later model shown ≡ true
over-since tree tick later model None le is = is
over-since tree tick later model (Some shown) le is = stays-over tree model shown tick later le is

pub over-later : (tree : TreeLists) (marks : List Mark) (tick later id : ℕ) → tick ≤ later → IsOver tree marks tick id → IsOver tree marks later id
over-later tree marks tick later id le over = λ model there its. over-since tree tick later model (start_of marks id) le (over model there its)

-- ---- one more mark

over-with : (tree : TreeLists) (tick : ℕ) (model : Spec) (marks : List Mark) (mark : Mark) (id : ℕ) (shown : Option Shown) → start_of marks id ≡ shown
    → is_over tree tick model shown ≡ true → is_over tree tick model (start_of (marks ++ mark ∷ []) id) ≡ true
over-with tree tick model marks mark id None is over = cc
over-with tree tick model marks mark id (Some shown) is over = ap (is_over tree tick model) (start-kept marks mark id shown is) ∙ over

over-more : (tree : TreeLists) (marks : List Mark) (mark : Mark) (tick id : ℕ) → IsOver tree marks tick id → IsOver tree (marks ++ mark ∷ []) tick id
over-more tree marks mark tick id over = λ model there its. over-with tree tick model marks mark id (start_of marks id) refl (over model there its)

pub over-next : (at new : ℕ → Option ModelRow) (tree : TreeLists) (marks : List Mark) (model : ℕ) (what : ModelMark) (order tick : ℕ)
    → new model ≡ option_map (advanced_row what order) (at model)
    → ((id : ℕ) → id ≢ model → new id ≡ at id)
    → ((id : ℕ) → says_over (at id) ≡ true → IsOver tree marks tick id)
    → (id : ℕ) → says_over (new id) ≡ true → IsOver tree (marks ++ OfModel model what ∷ []) tick id
over-next at new tree marks model what order tick here others over = λ id says.
    over-more tree marks (OfModel model what) tick id (over id (elim (eqb_tells id model) [
      | inl t ↦
          ap (λ (n : ℕ). says_over (at n)) t.1
          ∙ row-over-advanced (at model) what order (sym (ap says_over here) ∙ ap (λ (n : ℕ). says_over (new n)) (sym t.1) ∙ says)
      | inr f ↦ sym (ap says_over (others id f.1)) ∙ says
    ]))

-- ---- a model is found done

pub over-found : (at new : ℕ → Option ModelRow) (tree : TreeLists) (marks : List Mark) (tick : ℕ) (model : Spec)
    → IsDistinct nat_eq (map (λ m. m.id) tree.models) → IsAmong model tree.models
    → is_over tree tick model (start_of marks model.id) ≡ true
    → ((id : ℕ) → id ≢ model.id → new id ≡ at id)
    → ((id : ℕ) → says_over (at id) ≡ true → IsOver tree marks tick id)
    → (id : ℕ) → says_over (new id) ≡ true → IsOver tree marks tick id
over-found at new tree marks tick model differ there is others over = λ id says.
    elim (eqb_tells id model.id) [
      | inl t ↦ λ (twin : Spec) also its.
          let same : model ≡ twin = one-model tree.models model twin differ there also (sym t.1 ∙ sym its) in
          ap (λ (n : ℕ). is_over tree tick twin (start_of marks n)) t.1
          ∙ ap (λ (m : Spec). is_over tree tick m (start_of marks model.id)) (sym same)
          ∙ is
      | inr f ↦ over id (sym (ap says_over (others id f.1)) ∙ says)
    ]

-- ---- the pending commit takes over

-- a model whose row says that it was found done runs
over-running : (row : Option ModelRow) (active pending : List Spec) (marks : List Mark) (id : ℕ)
    → option_map marked_row row ≡ row_for active pending marks id → says_over row ≡ true → is_unfinished marks id ≡ true
over-running None active pending marks id is says = cc
over-running (Some row) active pending marks id is says =
    sym (state-runs marks id)
    ∙ ap effect.is_unfinished (sym (row-state active pending marks id (marked_row row) is))
    ∙ sym (marked-runs row.state)
    ∙ over-runs row.state says

timeline-there : (tree : TreeLists) (model : Spec) → HasAllTimelines tree → IsAmong model tree.models → IsTrue (has_timeline tree model.timeline)
timeline-there tree model all there =
    let found = index-of model tree.models there in
    each-found (λ (m : Spec). IsTrue (has_timeline tree m.timeline)) model tree.models found.0 all found.1

over-there : (active pending : TreeLists) (tick : ℕ) (model : Spec) (shown : Option Shown)
    → origin_of pending model.timeline ≡ origin_of active model.timeline
    → is_over active tick model shown ≡ true → is_over pending tick model shown ≡ true
over-there active pending tick model None same is = is
over-there active pending tick model (Some shown) same is =
    ap (λ (o : ℕ). is_done model.timing (timeline_time o tick -ℤ shown.start)) same ∙ is

pub over-taken : (row : Option ModelRow) (active pending : TreeLists) (marks : List Mark) (tick id : ℕ)
    → Follows active pending marks → HasAllTimelines active
    → option_map marked_row row ≡ row_for active.models pending.models marks id
    → says_over row ≡ true → IsOver active marks tick id → IsOver pending marks tick id
over-taken row active pending marks tick id follows all is says over = λ model there its.
    let started : is_started marks id ≡ true = running-started marks id (over-running row active.models pending.models marks id is says) in
    let marked : has_mark marks model.id ≡ true = ap (has_mark marks) its ∙ started-marked marks id started in
    let before : IsAmong model active.models = follows.marked model there marked in
    over-there active pending tick model (start_of marks id)
    (follows.timelines model.timeline (timeline-there active model all before)).1 (over model before its)

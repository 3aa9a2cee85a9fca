-- A commit in which nothing but elements is new follows the one before, and there is room for its models.
use Rattle.std.proofs.Common.{◌≡◌, ℕ, ◌≤◌, ◌==◌, true, false, List, [], ◌∷◌, length, map, refl, sym, ap, subst, ◌∙◌, inl, inr, arith}
use Rattle.std.specs.Prelude.{IsTrue, All, nat_eq}
use Rattle.std.specs.List.{IsDistinct, list_any}
use Rattle.std.proofs.lemmas.Bool.{false≢true, eqb-true}
use Rattle.anim_names.specs.declared.event.AnimEvent.{AnimEvent}
use Rattle.keyframe_model.specs.Models.{Spec}
use Rattle.run_rules.specs.declared.mark.Mark.{Mark}
use Rattle.run_rules.specs.declared.mark.Mark.TheVariants.{OfModel}
use Rattle.run_rules.specs.declared.mark.ModelMark.TheVariants.{Started, Finished, Aborted}
use Rattle.tree_commit.specs.Edits.{Change, OnElements, OnTimelines, OnModels, AddModel, RemoveModel, tree_after}
use Rattle.run_rules.specs.Follows.{Follows, IsKnown, KnowsAtMost, has_mark}
use Rattle.anim_names.specs.Lists.{IsAmong}
use Rattle.run_rules.specs.Marks.{event_of, is_about, model_of}
use Rattle.run_rules.specs.Runs.{model_of_event}
use Rattle.tree_commit.specs.Trees.{Clock, TreeLists, has_model, origin_of}
use Rattle.run_laws.proofs.AddedModels.{distinct_within}
use Rattle.run_rules.proofs.MarkLemmas.{about-model}
use Rattle.tree_commit.proofs.Among.{among-map, among-without, any-among, any-cases, each-among, one-model}
use Rattle.host_tests.specs.Steps.{GroupsAgree, OnlyElementsAreNew, adds_elements_alone}
use Rattle.host_tests.proofs.FirstCommits.{ids_of, ids-have, ids-length}

-- ---- edits that add elements alone

pub nothing_new : (tree : TreeLists) → OnlyElementsAreNew tree tree
nothing_new tree = record { models = λ model a. a; timelines = refl }

pub new_further : (one two three : TreeLists) → OnlyElementsAreNew one two → OnlyElementsAreNew two three → OnlyElementsAreNew one three
new_further one two three h i = record {
  models = λ model a. h.models model (i.models model a);
  timelines = i.timelines ∙ h.timelines;
}

pub new_after : (tree : TreeLists) (change : Change) → adds_elements_alone change ≡ true → OnlyElementsAreNew tree (tree_after tree change)
unfolding tree_after
new_after tree (OnElements change) h = record { models = λ model a. a; timelines = refl }
new_after tree (OnTimelines change) h = absurd (false≢true h)
new_after tree (OnModels (AddModel model)) h = absurd (false≢true h)
new_after tree (OnModels (RemoveModel id)) h = record {
  models = λ model a. among-without (λ (m : Spec). id == m.id) model tree.models a;
  timelines = refl;
}

-- ---- the host may be given the commit

pub follows_next : (old new : TreeLists) (marks : List Mark) → IsDistinct nat_eq (map (λ (m : Spec). m.id) old.models)
    → OnlyElementsAreNew old new → GroupsAgree new → Follows old new marks
follows_next old new marks apart few agree = record {
  one_model = λ model twin there other same. one-model old.models model twin apart there (few.models twin other) same;
  marked = λ model there has. few.models model there;
  group_there = λ model there has. few.models model there;
  group_started = λ model there has. few.models model there;
  groups_agree = agree;
  timelines = λ id there. (
    subst (λ (clocks : List Clock). IsTrue (list_any (λ (clock : Clock). id == clock.id) clocks)) (sym few.timelines) there,
    ap (λ (clocks : List Clock). origin_of (record old { timelines = clocks }) id) few.timelines,
  );
}

event-model : (mark : Mark) → model_of_event (event_of mark) ≡ model_of mark
event-model (OfModel model (Started begun)) = refl
event-model (OfModel model (Finished at)) = refl
event-model (OfModel model (Aborted commit)) = refl

-- where the models of all events are there, so are those of their marks
marks-known : (tree : TreeLists) (marks : List Mark)
    → All (λ (event : AnimEvent). IsTrue (has_model tree (model_of_event event))) (map event_of marks)
    → (id : ℕ) → has_mark marks id ≡ true → has_model tree id ≡ true
marks-known tree marks told id has =
    let found = any-cases (is_about id) marks has in
    let P : AnimEvent → Type 0 = λ event. IsTrue (has_model tree (model_of_event event)) in
    let there = each-among P (event_of found.0) (map event_of marks) told
    (among-map event_of found.0 marks found.1) in
    subst (λ (n : ℕ). has_model tree n ≡ true) (event-model found.0 ∙ sym (about-model id found.0 found.2)) there

known-before : (old new : TreeLists) (marks : List Mark) → OnlyElementsAreNew old new
    → ((id : ℕ) → has_mark marks id ≡ true → has_model old id ≡ true)
    → (id : ℕ) → IsKnown old new marks id → has_model old id ≡ true
known-before old new marks few known id (inl marked) = known id marked
known-before old new marks few known id (inr (inl there)) = there
known-before old new marks few known id (inr (inr there)) =
    let found = any-cases (λ (model : Spec). id == model.id) new.models there in
    any-among (λ (model : Spec). id == model.id) found.0 old.models (few.models found.0 found.1) found.2

pub room_next : (most : ℕ) (old new : TreeLists) (marks : List Mark) → OnlyElementsAreNew old new
    → All (λ (event : AnimEvent). IsTrue (has_model old (model_of_event event))) (map event_of marks)
    → length old.models ≤ most → KnowsAtMost most old new marks
room_next most old new marks few told room ids distinct known =
    let fits = distinct_within ids (ids_of old.models) distinct
    (λ id among. ids-have old.models id (known-before old new marks few (marks-known old marks told) id (known id among))) in
    omega (arith, fits, ids-length old.models, room)

use Rattle.std.proofs.Common.{◌≡◌, ◌≢◌, ◌+◌, ℕ, List, Bool, true, false, not, ◌||◌, drop, filter, map, ap, sym, subst, refl, ◌∙◌, arith, add-one}
use Rattle.std.specs.Prelude.{◌&&◌, ◌==◌}
use Rattle.std.proofs.lemmas.Bool.{eq-eqb, or_right}
use Rattle.keyframe_model.specs.Models.{Spec}
use Rattle.run_rules.specs.declared.mark.Mark.TheVariants.{OfModel}
use Rattle.run_rules.specs.declared.mark.ModelMark.TheVariants.{Aborted}
use Rattle.run_rules.specs.Marks.{is_ended, is_lost, is_started, marks_of_activation}
use Rattle.tree_commit.specs.Trees.{Committed, has_element, has_model}
use Rattle.anim_names.specs.Lists.{IsAmong}
use Rattle.tree_commit.proofs.Among.{among-found}
use Rattle.host_tables.specs.MarkLists.{mark_if}
use Rattle.anim_host.specs.Standing.{Stood, with_new}
use Rattle.host_tables.specs.States.{is_among}
use Rattle.host_tables.proofs.AmongLemmas.{among-left, apart-behind}
use Rattle.anim_host.proofs.GrowLemmas.{gives-if, growing-last, growing-next, one-if}
use Rattle.host_tables.proofs.StateLemmas.{abort-elsewhere}
use Rattle.anim_host.proofs.aborts.abort_lost.Goals as goal

true-differs : (a b : Bool) → a ≡ true → b ≡ false → a ≡ b → ⊥
true-differs a b t f same = cc

pub abort_one-requires-clause-there : goal.abort_one-requires-clause-there
abort_one-requires-clause-there c =
    subst (λ (s : Committed). IsAmong c.deref.result.now s.tree.models) (c.requires.active ∙ sym c.loop-index.invariant.0.active)
    (subst (λ (m : Spec). IsAmong m c.args.active.now.tree.models) (sym c.deref.ensures)
    (among-found c.model_at.result.now.value c.args.active.now.tree.models c.loop-index.index c.model_at.ensures))

pub loop-index-preserved : goal.loop-index-preserved
loop-index-preserved c =
    let models = c.args.active.now.tree.models in
    let new = c.args.new.now in
    let index = c.loop-index.index in
    let model = c.model_at.result.now.value in
    let old = c.args.standing.now in
    let now = c.loop-index.standing in
    let here : is_among (drop index models) model.id ≡ true =
    among-left models index model model.id c.model_at.ensures ∙ ap (λ b. b || is_among (drop (index + 1) models) model.id) (eq-eqb model.id model.id refl) in
    let same = c.loop-index.invariant.1 model.id here in
    let lost : is_lost new.tree now.list.marks model ≡ is_lost new.tree old.list.marks model =
    ap (λ b. not b && (not (has_model new.tree model.id) || (is_started now.list.marks model.id && not (has_element new.tree model.element)))) same.1
    ∙ ap (λ b. not (is_ended old.list.marks model.id) && (not (has_model new.tree model.id) || (b && not (has_element new.tree model.element)))) same.0 in
    let is_now : c.abort_one.new.standing ≡ with_new now (mark_if (is_lost new.tree now.list.marks model) (OfModel model.id (Aborted new.number))) =
    c.abort_one.ensures ∙ ap (λ (m : Spec). with_new now (mark_if (is_lost new.tree now.list.marks m) (OfModel m.id (Aborted new.number)))) c.deref.ensures in
    let is : c.abort_one.new.standing ≡ with_new now (mark_if (is_lost new.tree old.list.marks model) (OfModel model.id (Aborted new.number))) =
    is_now ∙ ap (λ (b : Bool). with_new now (mark_if b (OfModel model.id (Aborted new.number)))) lost in (
      growing-next (λ (ms : List Spec). map (λ (m : Spec). OfModel m.id (Aborted new.number)) (filter (is_lost new.tree old.list.marks) ms)) models index old now
          c.abort_one.new.standing model (mark_if (is_lost new.tree old.list.marks model) (OfModel model.id (Aborted new.number)))
          c.model_at.ensures
          (gives-if (is_lost new.tree old.list.marks) (λ (m : Spec). OfModel m.id (Aborted new.number)) model (drop (index + 1) models) (is_lost new.tree old.list.marks model))
          (one-if (is_lost new.tree old.list.marks model) (OfModel model.id (Aborted new.number)))
          is c.loop-index.invariant.0,
      λ id left.
          let gone : is_among (drop (index + 1) models) model.id ≡ false =
          ap (λ (k : ℕ). is_among (drop k models) model.id) (add-one index) ∙ apart-behind models index model c.model_count-index-end.ensures.differ c.model_at.ensures in
          let other : id ≢ model.id = λ same_id. true-differs (is_among (drop (index + 1) models) id) (is_among (drop (index + 1) models) model.id) left gone (ap (is_among (drop (index + 1) models)) same_id) in
          let before = c.loop-index.invariant.1 id (among-left models index model id c.model_at.ensures ∙ or_right (id == model.id) (is_among (drop (index + 1) models) id) left) in
          let after = abort-elsewhere now.list.marks (is_lost new.tree old.list.marks model) model.id new.number id other in (
            ap (λ (s : Stood). is_started s.list.marks id) is ∙ after.0 ∙ before.0,
            ap (λ (s : Stood). is_ended s.list.marks id) is ∙ after.1 ∙ before.1,
          ),
    )

pub returns : goal.returns
unfolding marks_of_activation
returns c =
    growing-last (λ (ms : List Spec). map (λ (m : Spec). OfModel m.id (Aborted c.args.new.now.number)) (filter (is_lost c.args.new.now.tree c.args.standing.now.list.marks) ms))
    c.args.active.now.tree.models c.loop-index.index c.args.standing.now c.loop-index.standing (omega arith) refl c.loop-index.invariant.0

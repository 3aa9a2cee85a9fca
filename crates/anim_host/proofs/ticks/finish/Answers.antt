use Rattle.std.proofs.Common.{◌≡◌, ◌+◌, ◌∷◌, [], ℕ, List, Option, Some, drop, get_or, map, ap, sym, subst, refl, ◌∙◌, arith}
use Rattle.std.specs.Prelude.{slice_get}
use Rattle.std.specs.List.{cons_option}
use Rattle.std.proofs.lemmas.Option.{slice_get-get_or}
use Rattle.keyframe_model.specs.Models.{Spec}
use Rattle.run_rules.specs.declared.mark.Mark.TheVariants.{OfModel}
use Rattle.run_rules.specs.declared.mark.ModelMark.TheVariants.{Finished}
use Rattle.anim_names.specs.Lists.{IsAmong}
use Rattle.run_rules.specs.Marks.{is_started}
use Rattle.tree_commit.specs.Trees.{Committed}
use Rattle.tree_commit.proofs.Among.{among-found}
use Rattle.anim_host.specs.Fits.{AreSettled}
use Rattle.host_tables.specs.CommitGroups.{at_indices}
use Rattle.anim_host.specs.Standing.{Stood, with_new}
use Rattle.anim_host.proofs.GrowLemmas.{growing-last, growing-next, growing-start}
use Rattle.anim_host.proofs.SettleLemmas.{at-among, settled-end}
use Rattle.host_tables.proofs.StateLemmas.{started-grows}
use Rattle.anim_host.proofs.ticks.finish.Goals as goal

pub loop-position-init : goal.loop-position-init
loop-position-init c = (
  growing-start (λ (ps : List ℕ). map (λ (m : Spec). OfModel m.id (Finished c.args.tick)) (at_indices c.args.active.now.tree.models ps)) c.args.indices.now c.args.standing.now,
  λ id is. is,
  c.requires.settled,
)

pub finish_one-requires-clause-there : goal.finish_one-requires-clause-there
finish_one-requires-clause-there c =
    subst (λ (s : Committed). IsAmong c.deref.result.now s.tree.models) (c.requires.active ∙ sym c.loop-position.invariant.0.active)
    (subst (λ (m : Spec). IsAmong m c.args.active.now.tree.models) (sym c.deref.ensures)
    (among-found c.model_at.result.now.value c.args.active.now.tree.models (get_or c.args.indices.now c.loop-position.position 0) c.model_at.ensures))

pub finish_one-requires-clause-started : goal.finish_one-requires-clause-started
finish_one-requires-clause-started c =
    let index = get_or c.args.indices.now c.loop-position.position 0 in
    let model = c.model_at.result.now.value in
    ap (λ (m : Spec). is_started c.loop-position.standing.list.marks m.id) c.deref.ensures
    ∙ c.loop-position.invariant.1 model.id
    (c.requires.started model
    (at-among c.args.active.now.tree.models c.args.indices.now c.loop-position.position index model (slice_get-get_or c.args.indices.now c.loop-position.position 0 (omega arith)) c.model_at.ensures))

pub finish_one-requires-clause-room : goal.finish_one-requires-clause-room
finish_one-requires-clause-room c =
    let few = c.loop-position.invariant.0.few in
    let room = c.loop-position.invariant.0.room in
    let had = c.requires.room in
    omega arith

pub loop-position-preserved : goal.loop-position-preserved
loop-position-preserved c =
    let models = c.args.active.now.tree.models in
    let indices = c.args.indices.now in
    let position = c.loop-position.position in
    let index = get_or indices position 0 in
    let model = c.model_at.result.now.value in
    let now = c.loop-position.standing in
    let mark = OfModel model.id (Finished c.args.tick) in
    let found : slice_get indices position ≡ Some index = slice_get-get_or indices position 0 (omega arith) in
    let is : c.finish_one.new.standing ≡ with_new now (mark ∷ []) = c.finish_one.ensures ∙ ap (λ (m : Spec). with_new now (OfModel m.id (Finished c.args.tick) ∷ [])) c.deref.ensures in
    let began = c.loop-position.invariant.1 model.id (c.requires.started model (at-among models indices position index model found c.model_at.ensures)) in (
      growing-next (λ (ps : List ℕ). map (λ (m : Spec). OfModel m.id (Finished c.args.tick)) (at_indices models ps)) indices position
          c.args.standing.now now c.finish_one.new.standing index (mark ∷ []) found
          (ap (λ (o : Option Spec). map (λ (m : Spec). OfModel m.id (Finished c.args.tick)) (cons_option o (at_indices models (drop (position + 1) indices)))) c.model_at.ensures)
          (omega arith) is c.loop-position.invariant.0,
      λ id first. ap (λ (s : Stood). is_started s.list.marks id) is ∙ started-grows now.list.marks mark id (c.loop-position.invariant.1 id first),
      subst (λ (s : Stood). AreSettled models s.list.marks) (sym is) (settled-end models now.list.marks (Finished c.args.tick) model c.loop-position.invariant.2 refl began),
    )

pub returns-clause-marks : goal.returns-clause-marks
returns-clause-marks c =
    growing-last (λ (ps : List ℕ). map (λ (m : Spec). OfModel m.id (Finished c.args.tick)) (at_indices c.args.active.now.tree.models ps))
    c.args.indices.now c.loop-position.position c.args.standing.now c.loop-position.standing (omega arith) refl c.loop-position.invariant.0

use Rattle.std.proofs.Common.{◌≡◌, ◌+◌, ℕ, List, true, cond, drop, filter, get_or, ap, sym, subst, ◌∙◌, arith}
use Rattle.std.specs.Prelude.{◌&&◌, IsTrue}
use Rattle.std.specs.List.{list_all}
use Rattle.std.proofs.lemmas.Option.{slice_get-get_or}
use Rattle.keyframe_model.specs.Models.{Spec}
use Rattle.run_rules.specs.Marks.{is_over, is_unfinished, start_of}
use Rattle.tree_commit.specs.Tables.{has_timeline}
use Rattle.anim_names.specs.Lists.{IsAmong}
use Rattle.tree_commit.proofs.Among.{among-found, each-found}
use Rattle.host_tables.specs.CommitGroups.{at_indices}
use Rattle.anim_host.specs.Standing.{Stood}
use Rattle.host_tables.proofs.LoopLemmas.{all-next}
use Rattle.host_tables.proofs.CommitGroupsLemmas.{all-indices}
use Rattle.anim_host.proofs.finish.are_over.Goals as goal

pub is_over_or_still-over-requires-clause-there : goal.is_over_or_still-over-requires-clause-there
is_over_or_still-over-requires-clause-there c =
    subst (λ (m : Spec). IsAmong m c.args.active.now.tree.models) (sym c.deref.ensures)
    (among-found c.model_at.result.now.value c.args.active.now.tree.models (get_or c.args.indices.now c.loop-position.position 0) c.model_at.ensures)

pub is_over_or_still-over-requires-clause-active : goal.is_over_or_still-over-requires-clause-active
is_over_or_still-over-requires-clause-active c = c.requires.active ∙ ap (λ (s : Stood). s.active) (sym c.loop-position.invariant.0)

pub is_over_or_still-over-requires-clause-last : goal.is_over_or_still-over-requires-clause-last
is_over_or_still-over-requires-clause-last c = ap (λ (s : Stood). s.last_tick) c.loop-position.invariant.0 ∙ c.requires.last

pub is_over_or_still-over-requires-clause-timeline_there : goal.is_over_or_still-over-requires-clause-timeline_there
is_over_or_still-over-requires-clause-timeline_there c =
    subst (λ (m : Spec). IsTrue (has_timeline c.args.active.now.tree m.timeline)) (sym c.deref.ensures)
    (each-found (λ (m : Spec). IsTrue (has_timeline c.args.active.now.tree m.timeline)) c.model_at.result.now.value
    c.args.active.now.tree.models (get_or c.args.indices.now c.loop-position.position 0) c.requires.timelines_there c.model_at.ensures)

pub loop-position-preserved : goal.loop-position-preserved
loop-position-preserved c =
    let old = c.args.standing.now in
    let now = c.loop-position.standing in
    let same : now ≡ old = c.loop-position.invariant.0 in
    let marks = c.args.standing.now.list.marks in
    let models = c.args.active.now.tree.models in
    let indices = c.args.indices.now in
    let position = c.loop-position.position in
    let index = get_or indices position 0 in
    let model = c.model_at.result.now.value in
    let passes = λ (m : Spec). is_over c.args.active.now.tree c.args.tick m (start_of marks m.id) in
    let runs = λ (m : Spec). is_unfinished marks m.id in
    let still : c.is_over_or_still-over.result ≡ cond (runs model) (passes model) true =
    rw (c.deref.ensures, same) at c.is_over_or_still-over.ensures.over in (
      c.is_over_or_still-over.ensures.same ∙ same,
      all-next (λ (ps : List ℕ). list_all passes (filter runs (at_indices models ps))) indices position index c.loop-position.over _
          (cond (runs model) (passes model) true) _
          (slice_get-get_or indices position 0 (omega arith))
          (all-indices models runs passes index (drop (position + 1) indices) model c.model_at.ensures)
          (ap (λ b. c.loop-position.over && b) still) c.loop-position.invariant.1,
    )

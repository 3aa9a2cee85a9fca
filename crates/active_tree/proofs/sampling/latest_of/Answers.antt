use Rattle.std.proofs.Common.{◌≤◌, IsTrue, IfSome, sym, ap, subst, ◌∙◌}
use Rattle.std.specs.Prelude.{unsigned_abs}
use Rattle.micro_time.specs.declared.TheConstants.{LARGEST_LOCAL}
use Rattle.anim_names.specs.Lists.{IsAmong}
use Rattle.tree_commit.specs.Tables.{has_timeline}
use Rattle.tree_commit.specs.Trees.{Committed, local_time}
use Rattle.tree_commit.proofs.Among.{each-found}
use Rattle.active_tree.specs.Samples.{counts_with}
use Rattle.active_tree.proofs.CountLemmas.{counts-more}
use Rattle.active_tree.proofs.sampling.latest_of.Goals as goal

pub look_at_model-requires-clause-there : goal.look_at_model-requires-clause-there
look_at_model-requires-clause-there g c =
    subst (λ (t : Committed). IsAmong c.at.result.now t.tree.models) (sym c.loop-i.invariant.0)
    (each-found (λ model. IsAmong model c.args.sampled.now.tree.models) c.at.result.now c.args.list.now c.loop-i.i c.requires.there c.at.ensures)

pub look_at_model-requires-clause-timeline_there : goal.look_at_model-requires-clause-timeline_there
look_at_model-requires-clause-timeline_there g c =
    subst (λ (t : Committed). IsTrue (has_timeline t.tree c.at.result.now.timeline)) (sym c.loop-i.invariant.0)
    (each-found (λ model. IsTrue (has_timeline c.args.sampled.now.tree model.timeline)) c.at.result.now c.args.list.now c.loop-i.i c.requires.timelines_there c.at.ensures)

pub look_at_model-requires-clause-local : goal.look_at_model-requires-clause-local
look_at_model-requires-clause-local g c =
    let shown = g.S.StartTable.starts c.args.starts.now in
    subst (λ (t : Committed). IfSome (shown c.at.result.now.id) (λ s. unsigned_abs (local_time t.tree c.args.time c.at.result.now s) ≤ LARGEST_LOCAL))
    (sym c.loop-i.invariant.0)
    (each-found (λ model. IfSome (shown model.id) (λ s. unsigned_abs (local_time c.args.sampled.now.tree c.args.time model s) ≤ LARGEST_LOCAL))
    c.at.result.now c.args.list.now c.loop-i.i c.requires.locals c.at.ensures)

pub loop-i-preserved : goal.loop-i-preserved
loop-i-preserved g c =
    let tree = c.args.sampled.now.tree in
    let shown = g.S.StartTable.starts c.args.starts.now in
    let so_far = c.loop-i.invariant in
    let model = c.at.result.now in
    let latest = c.in_ok-look_at_model.ensures.latest ∙ ap (λ (t : Committed). counts_with t.tree shown c.args.time c.args.property c.loop-i.latest model) so_far.0 in (
      c.look_at_model.ensures.same ∙ so_far.0,
      counts-more tree shown c.args.time c.args.property c.args.list.now c.loop-i.i model _ _ c.at.ensures latest so_far.1,
    )

use Rattle.std.proofs.Common.{◌≤◌, IsTrue, IfSome, None, sym, subst, arith}
use Rattle.std.specs.Prelude.{unsigned_abs}
use Rattle.keyframe_model.specs.Models.{Spec}
use Rattle.micro_time.specs.declared.TheConstants.{LARGEST_LOCAL}
use Rattle.tree_commit.specs.Tables.{has_timeline}
use Rattle.tree_commit.specs.Trees.{local_time}
use Rattle.tree_commit.proofs.Among.{each-found}
use Rattle.element_samples.proofs.SamplingLemmas.{best_of_all, best-next, best-last}
use Rattle.element_samples.proofs.sampling.latest_of.Goals as goal

pub look_at_model-requires-clause-timeline_there : goal.look_at_model-requires-clause-timeline_there
look_at_model-requires-clause-timeline_there g c =
    let tree = c.args.commit.now.tree in
    let There = λ (model : Spec). IsTrue (has_timeline tree model.timeline) in
    subst There (sym c.deref.ensures)
    (each-found There c.model_at-model.result.now.value tree.models c.loop-i.i c.model_count-i-end.ensures.timelines_there c.model_at-model.ensures)

pub look_at_model-requires-clause-local : goal.look_at_model-requires-clause-local
look_at_model-requires-clause-local g c =
    let tree = c.args.commit.now.tree in
    let shown = g.S.StartTable.starts c.args.starts.now in
    let Local = λ (model : Spec). IfSome (shown model.id) (λ s. unsigned_abs (local_time tree c.args.time model s) ≤ LARGEST_LOCAL) in
    subst Local (sym c.deref.ensures)
    (each-found Local c.model_at-model.result.now.value tree.models c.loop-i.i c.requires.locals c.model_at-model.ensures)

pub loop-i-preserved : goal.loop-i-preserved
loop-i-preserved g c =
    let tree = c.args.commit.now.tree in
    let shown = g.S.StartTable.starts c.args.starts.now in
    best-next tree shown c.args.time c.args.element c.args.property c.loop-i.latest _ (best_of_all tree shown c.args.time c.args.element c.args.property None tree.models) tree.models c.loop-i.i c.model_at-model.result.now.value c.model_at-model.ensures (rw c.deref.ensures at c.in_ok-look_at_model.ensures) c.loop-i.invariant

pub returns : goal.returns
returns g c =
    best-last c.args.commit.now.tree (g.S.StartTable.starts c.args.starts.now) c.args.time c.args.element c.args.property
    _ c.loop-i.i (omega arith) c.loop-i.invariant

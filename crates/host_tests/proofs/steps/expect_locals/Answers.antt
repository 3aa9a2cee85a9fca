use Rattle.std.proofs.Common.{◌≤◌, get_or, subst, arith}
use Rattle.std.specs.Prelude.{IfSome, unsigned_abs}
use Rattle.std.proofs.lemmas.Option.{slice_get-get_or}
use Rattle.keyframe_model.specs.Models.{Spec}
use Rattle.micro_time.specs.declared.TheConstants.{LARGEST_LOCAL}
use Rattle.tree_commit.specs.Trees.{local_time}
use Rattle.anim_host.specs.Hosting.{shown_in}
use Rattle.host_tests.proofs.Indices.{one-more}
use Rattle.host_tests.proofs.steps.expect_locals.Goals as goal

pub loop-i-preserved : goal.loop-i-preserved
loop-i-preserved g c =
    let tree = c.args.commit.now.tree in
    let P : Spec → Type 0
    = λ model. IfSome (shown_in c.args.host.now model.id) (λ s. unsigned_abs (local_time tree c.args.time model s) ≤ LARGEST_LOCAL) in
    one-more P tree.models c.loop-i.i c.model_at.result.now.value c.loop-i.invariant c.model_at.ensures
    (subst P c.deref.ensures c.expect_local.ensures)

pub returns : goal.returns
returns g c k d within =
    let models = c.args.commit.now.tree.models in
    c.loop-i.invariant k (get_or models k d) (omega arith) (slice_get-get_or models k d within)

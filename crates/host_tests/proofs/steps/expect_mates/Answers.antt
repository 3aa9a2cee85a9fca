use Rattle.std.proofs.Common.{◌≡◌, subst, arith}
use Rattle.std.proofs.lemmas.Option.{slice_get_within}
use Rattle.keyframe_model.specs.Models.{Spec}
use Rattle.run_rules.specs.Follows.{AgreeAsGroup}
use Rattle.host_tests.proofs.Indices.{one-more}
use Rattle.host_tests.proofs.steps.expect_mates.Goals as goal

pub loop-j-preserved : goal.loop-j-preserved
loop-j-preserved g c =
    one-more (λ (mate : Spec). c.args.model.now.group ≡ mate.group → AgreeAsGroup c.args.model.now mate)
    c.args.commit.now.tree.models c.loop-j.j c.model_at.result.now.value c.loop-j.invariant c.model_at.ensures
    (subst (λ (mate : Spec). c.args.model.now.group ≡ mate.group → AgreeAsGroup c.args.model.now mate)
    c.deref.ensures c.expect_mate.ensures)

pub returns : goal.returns
returns g c k mate is same =
    let within = slice_get_within c.args.commit.now.tree.models k mate is in
    c.loop-j.invariant k mate (omega (arith, within)) is same

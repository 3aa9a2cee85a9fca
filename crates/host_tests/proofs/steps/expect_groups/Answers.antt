use Rattle.std.proofs.Common.{◌≡◌, ℕ, Some, subst, arith}
use Rattle.std.specs.List.{slice_get}
use Rattle.std.proofs.lemmas.Option.{slice_get_within}
use Rattle.keyframe_model.specs.Models.{Spec}
use Rattle.run_rules.specs.Follows.{AgreeAsGroup}
use Rattle.host_tables.proofs.AmongLemmas.{index-of}
use Rattle.host_tests.proofs.Indices.{one-more}
use Rattle.host_tests.proofs.steps.expect_groups.Goals as goal

pub loop-i-preserved : goal.loop-i-preserved
loop-i-preserved g c =
    let P : Spec → Type 0
    = λ model. (k : ℕ) (mate : Spec) → slice_get c.args.commit.now.tree.models k ≡ Some mate → model.group ≡ mate.group → AgreeAsGroup model mate in
    one-more P c.args.commit.now.tree.models c.loop-i.i c.model_at.result.now.value c.loop-i.invariant c.model_at.ensures
    (subst P c.deref.ensures c.expect_mates.ensures)

pub returns : goal.returns
returns g c model mate a b same =
    let models = c.args.commit.now.tree.models in
    let one = index-of model models a in
    let other = index-of mate models b in
    let within = slice_get_within models one.0 model one.1 in
    c.loop-i.invariant one.0 model (omega (arith, within)) one.1 other.0 mate other.1 same

use Rattle.std.proofs.Common.{IfSome, nat_le, sym, ap, subst, ◌∙◌}
use Rattle.std.specs.Option.{option_copied}
use Rattle.std.proofs.lemmas.Bool.{and_parts, leb-true}
use Rattle.std.proofs.lemmas.Result.{IfOk-weaker}
use Rattle.keyframe_model.specs.Models.{model_value}
use Rattle.anim_names.specs.Lists.{IsAmong}
use Rattle.tree_commit.specs.Trees.{Committed, local_time}
use Rattle.active_tree.specs.Kept.{IsKeptOf, is_shown}
use Rattle.active_tree.proofs.KeptLemmas.{same-shown}
use Rattle.active_tree.proofs.sampled_commit.SampledCommit.sample.Goals as goal

pub returns-in-Some-clause-value : goal.returns-in-Some-clause-value
returns-in-Some-clause-value g c =
    let tree = c.self.inside.commit.value.tree in
    let model = c.args.model.now in
    let found = sym c.get.ensures.value ∙ ap option_copied c.in-Some.is in
    let kept = subst (λ o. IfSome o (IsKeptOf tree c.id.result)) found (c.self.invariant c.id.result) in
    let there = subst (λ (t : Committed). IsAmong model t.tree.models) (sym c.self.view_is) c.requires.there in
    let tests = and_parts (is_shown c.in-Some.kept.now.shown c.args.shown) (nat_le c.in-Some.kept.now.since c.args.time) (sym c.if-is_right.ensures) in
    let same = same-shown c.in-Some.kept.now.shown c.args.shown tests.0 in
    let right = kept.1 model there c.id.ensures.value c.args.time (leb-true c.in-Some.kept.now.since c.args.time tests.1) in
    let value = sym right
    ∙ ap (λ shown. model_value model (local_time tree c.args.time model shown)) same
    ∙ ap (λ (t : Committed). model_value model (local_time t.tree c.args.time model c.args.shown)) c.self.view_is in
    IfOk-weaker c.sample.result _ _ (λ sample is. is ∙ value) c.sample.ensures

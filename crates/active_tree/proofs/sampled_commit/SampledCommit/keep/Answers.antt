use Rattle.std.proofs.Common.{sym, subst}
use Rattle.std.specs.Prelude.{option_map}
use Rattle.keyframe_model.specs.Views.{shared_value_of}
use Rattle.active_tree.specs.Kept.{IsKeptOf}
use Rattle.active_tree.proofs.KeptLemmas.{kept-more}
use Rattle.active_tree.proofs.sampled_commit.SampledCommit.keep.Goals as goal

pub invariant_of-self-2 : goal.invariant_of-self-2
invariant_of-self-2 c =
    let tree = c.self.inside.commit.value.tree in
    let value = option_map shared_value_of c.in_ok-sample.sample in
    let kept = subst (λ v. IsKeptOf tree c.args.id (record { shown = c.args.shown; since = c.args.since; value = v }))
    (sym c.in_ok-sample.ensures) (rw (← c.self.view_is) at c.requires) in
    kept-more tree c.args.id (record { shown = c.args.shown; since = c.args.since; value = value })
    c.self.inside.kept.entries c.insert.new.self.entries c.self.invariant kept c.in_ok-insert.ensures.updates.0

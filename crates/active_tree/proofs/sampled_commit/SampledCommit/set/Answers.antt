use Rattle.std.proofs.Common.{rules, subst, sym}
use Rattle.indexmap.proofs.CallerLemmas.{filter-RetainsPairs}
use Rattle.run_rules.specs.Follows.{TreesAgree}
use Rattle.tree_commit.specs.Tables.{HasAllTimelines}
use Rattle.tree_commit.specs.Trees.{Committed}
use Rattle.active_tree.proofs.KeptLemmas.{kept-after}
use Rattle.active_tree.proofs.sampled_commit.SampledCommit.set.Goals as goal

pub invariant_of-self : goal.invariant_of-self
invariant_of-self c =
    kept-after c.self.inside.commit.value.tree c.args.commit.value.tree c.self.inside.kept.entries c.retain.new.self.entries
    (subst (λ (t : Committed). TreesAgree t.tree c.args.commit.value.tree) (sym c.self.view_is) c.requires)
    (subst (λ (t : Committed). HasAllTimelines t.tree) c.deref.ensures c.model_count.ensures.timelines_there)
    (subst (λ (t : Committed). HasAllTimelines t.tree) c.deref-2.ensures c.model_count-2.ensures.timelines_there)
    (filter-RetainsPairs _ _ _ (λ k v b w g call. search rules) _ _ c.retain.ensures.filtered)
    c.self.invariant

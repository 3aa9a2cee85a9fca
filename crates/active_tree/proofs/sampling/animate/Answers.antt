use Rattle.std.proofs.Common.{◌≤◌, IsTrue, IfSome, subst, ◌∙◌}
use Rattle.std.specs.Prelude.{unsigned_abs}
use Rattle.micro_time.specs.declared.TheConstants.{LARGEST_LOCAL}
use Rattle.tree_commit.specs.Tables.{HasAllTimelines, has_timeline}
use Rattle.tree_commit.specs.Trees.{Committed, local_time}
use Rattle.anim_names.specs.Lists.{IsAmong}
use Rattle.tree_commit.proofs.Among.{all-are-among}
use Rattle.active_tree.proofs.CountLemmas.{all-on}
use Rattle.active_tree.proofs.sampling.animate.Goals as goal

pub show_list-requires-clause-timelines_there : goal.show_list-requires-clause-timelines_there
show_list-requires-clause-timelines_there g c =
    all-on (λ model. IsTrue (has_timeline c.args.sampled.now.tree model.timeline)) c.args.element c.args.sampled.now.tree.models c.in-Some.list.now
    (c.in-Some.ensures ∙ c.requires.lists c.args.element)
    (subst (λ (t : Committed). HasAllTimelines t.tree) (c.deref.ensures ∙ c.commit.ensures) c.model_count-count.ensures.timelines_there)

pub show_list-requires-clause-locals : goal.show_list-requires-clause-locals
show_list-requires-clause-locals g c =
    all-on
    (λ model. IfSome (g.S.StartTable.starts c.args.starts.now model.id) (λ s. unsigned_abs (local_time c.args.sampled.now.tree c.args.time model s) ≤ LARGEST_LOCAL))
    c.args.element c.args.sampled.now.tree.models c.in-Some.list.now
    (c.in-Some.ensures ∙ c.requires.lists c.args.element) c.requires.locals

pub show_list-requires-clause-there : goal.show_list-requires-clause-there
show_list-requires-clause-there g c =
    all-on (λ model. IsAmong model c.args.sampled.now.tree.models) c.args.element c.args.sampled.now.tree.models c.in-Some.list.now
    (c.in-Some.ensures ∙ c.requires.lists c.args.element) (all-are-among c.args.sampled.now.tree.models)

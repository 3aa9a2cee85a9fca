use Rattle.std.proofs.Common.{is_some, sym, ap, ◌∙◌}
use Rattle.tree_commit.proofs.TableLemmas.{found_timeline, origin_found, is_some-option_map}
use Rattle.tree_commit.proofs.commit.Commit.timeline.Goals as goal

pub returns-clause-origin : goal.returns-clause-origin
returns-clause-origin c =
    rw (← c.self.view_is) (c.get.ensures.value ∙ origin_found c.args.id c.self.inside.timelines.entries)

pub returns-clause-found : goal.returns-clause-found
returns-clause-found c =
    rw (← c.self.view_is)
    (
    sym (is_some-option_map _ c.get.result)
    ∙ ap is_some c.get.ensures.value
    ∙ found_timeline c.args.id c.self.inside.timelines.entries
    )

use Rattle.std.proofs.Common.{◌∙◌}
use Rattle.tree_commit.proofs.TableLemmas.{found_model, place_of_model}
use Rattle.tree_commit.proofs.commit.Commit.place_of.Goals as goal

pub returns-clause-index : goal.returns-clause-index
returns-clause-index c =
    rw (← c.self.view_is)
    (c.get_index_of.ensures.index ∙ place_of_model c.args.id c.self.inside.models.entries c.self.invariant.0)

pub returns-clause-found : goal.returns-clause-found
returns-clause-found c =
    rw (← c.self.view_is)
    (c.get_index_of.ensures.found ∙ found_model c.args.id c.self.inside.models.entries c.self.invariant.0)

use Rattle.std.proofs.Common.{◌∙◌}
use Rattle.tree_commit.proofs.TableLemmas.{found_model}
use Rattle.tree_commit.proofs.commit.Commit.has_model.Goals as goal

pub returns : goal.returns
returns c =
    rw (← c.self.view_is)
    (c.contains_key.ensures ∙ found_model c.args.id c.self.inside.models.entries c.self.invariant.0)

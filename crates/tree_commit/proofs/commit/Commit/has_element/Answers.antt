use Rattle.std.proofs.Common.{◌∙◌}
use Rattle.tree_commit.proofs.TableLemmas.{found_element}
use Rattle.tree_commit.proofs.commit.Commit.has_element.Goals as goal

pub returns : goal.returns
returns c = rw (← c.self.view_is) (c.contains_key.ensures ∙ found_element c.args.id c.self.inside.elements.entries)

use Rattle.main_tree.proofs.TableEdits.{without-element_of}
use Rattle.main_tree.proofs.tree.take_out.Goals as goal

pub returns : goal.returns
returns c = let removed = without-element_of c.args.id c.args.elements.now.entries in cc

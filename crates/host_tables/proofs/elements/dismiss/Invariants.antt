use Rattle.std.proofs.Common.{false, take}
use Rattle.host_tables.specs.Elements.{AreSet}
use Rattle.host_tables.proofs.elements.dismiss.Given as goal

abbrev pub invariant-loop-index : goal.invariant-loop-index
invariant-loop-index l = AreSet l.tree (take l.index l.commit.tree.elements) false l.fn.table l.table

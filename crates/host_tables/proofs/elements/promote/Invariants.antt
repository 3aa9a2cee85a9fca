use Rattle.std.proofs.Common.{true, take}
use Rattle.anim_names.specs.declared.lane.Tree.TheVariants.{Active}
use Rattle.host_tables.specs.Elements.{AreSet}
use Rattle.host_tables.proofs.elements.promote.Given as goal

abbrev pub invariant-loop-index : goal.invariant-loop-index
invariant-loop-index l =
    AreSet Active (take l.index l.commit.tree.elements) true l.fn.table l.table

use Rattle.std.proofs.Common.{◌≤◌, ◌+◌, true, take, length}
use Rattle.anim_names.specs.declared.lane.Tree.TheVariants.{Pending}
use Rattle.host_tables.specs.Elements.{AreSet}
use Rattle.host_tables.proofs.elements.announce.Given as goal

abbrev pub invariant-loop-index : goal.invariant-loop-index
invariant-loop-index l =
    AreSet Pending (take l.index l.commit.tree.elements) true l.fn.table l.table
    × (length l.commit.tree.elements ≤ l.index + l.table.room)

use Rattle.std.proofs.Common.{◌≡◌, ◌+◌, drop}
use Rattle.tree_commit.specs.Trees.{groups_of}
use Rattle.anim_host.specs.Ticks.{start_room}
use Rattle.anim_host.proofs.starts.start_room.Given as goal

abbrev pub invariant-loop-index : goal.invariant-loop-index
invariant-loop-index l = l.room + start_room l.active.tree (drop l.index (groups_of l.active.tree)) ≡ start_room l.active.tree (groups_of l.active.tree)

use Rattle.std.proofs.Common.{◌≡◌, ◌||◌, drop}
use Rattle.std.specs.List.{list_any}
use Rattle.tree_commit.specs.Trees.{groups_of}
use Rattle.anim_host.specs.Ticks.{group_finishes}
use Rattle.anim_host.proofs.finish.some_finish.Given as goal

abbrev pub invariant-loop-index : goal.invariant-loop-index
invariant-loop-index l =
    (l.standing ≡ l.fn.standing)
    × ((l.found || list_any (group_finishes l.active.tree l.fn.standing.list.marks l.tick) (drop l.index (groups_of l.active.tree)))
    ≡ list_any (group_finishes l.active.tree l.fn.standing.list.marks l.tick) (groups_of l.active.tree))

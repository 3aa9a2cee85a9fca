use Rattle.std.proofs.Common.{◌≡◌}
use Rattle.tree_commit.specs.Trees.{groups_of}
use Rattle.anim_host.specs.Fits.{AreSettled}
use Rattle.anim_host.proofs.StartLemmas.{Starting}
use Rattle.anim_host.proofs.starts.start_groups.Given as goal

abbrev pub invariant-loop-index : goal.invariant-loop-index
invariant-loop-index l =
    Starting l.active.tree l.fn.standing.pending l.tick (groups_of l.active.tree) l.index l.fn.standing.list l.standing.list
    × (l.standing.active ≡ l.fn.standing.active)
    × (l.standing.pending ≡ l.fn.standing.pending)
    × (l.standing.last_tick ≡ l.fn.standing.last_tick)
    × AreSettled l.active.tree.models l.standing.list.marks

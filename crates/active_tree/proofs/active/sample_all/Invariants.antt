use Rattle.std.proofs.Common.{◌≡◌, map, take}
use Rattle.run_rules.specs.Frames.{row_of}
use Rattle.element_samples.specs.Views.{drawn_row_of}
use Rattle.active_tree.proofs.active.sample_all.Given as goal

abbrev pub invariant-loop-index : goal.invariant-loop-index
invariant-loop-index g l =
    (l.sampled ≡ l.fn.sampled)
    × (
    map drawn_row_of l.rows.items
    ≡ take l.index (map (row_of l.fn.sampled.tree (g.S.StartTable.starts l.starts) l.time) l.fn.sampled.tree.elements)
    )

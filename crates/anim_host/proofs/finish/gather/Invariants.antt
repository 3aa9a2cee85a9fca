use Rattle.std.proofs.Common.{◌≡◌, ◌<◌, ◌≤◌, ◌++◌, drop, filter, length, vec_capacity}
use Rattle.std.specs.List.{AllByRecursion}
use Rattle.run_rules.specs.Marks.{finishing_models}
use Rattle.anim_host.specs.Ticks.{finishes}
use Rattle.host_tables.specs.CommitGroups.{at_indices}
use Rattle.anim_host.proofs.finish.gather.Given as goal

abbrev pub invariant-loop-index : goal.invariant-loop-index
invariant-loop-index l =
    (l.standing ≡ l.fn.standing)
    × (at_indices l.active.tree.models l.indices.items
    ++ filter (finishes l.active.tree l.fn.standing.list.marks l.tick) (drop l.index l.active.tree.models)
    ≡ finishing_models l.active.tree l.fn.standing.list.marks l.tick)
    × AllByRecursion (λ index. index < length l.active.tree.models) l.indices.items
    × (length l.indices.items ≤ l.index)
    × (length l.active.tree.models ≤ vec_capacity l.indices)

use Rattle.std.proofs.Common.{◌≡◌, drop, filter}
use Rattle.std.specs.Prelude.{◌&&◌}
use Rattle.std.specs.List.{list_all}
use Rattle.run_rules.specs.Marks.{is_over, is_unfinished, start_of}
use Rattle.host_tables.specs.CommitGroups.{at_indices}
use Rattle.anim_host.proofs.finish.are_over.Given as goal

abbrev pub invariant-loop-position : goal.invariant-loop-position
invariant-loop-position l =
    (l.standing ≡ l.fn.standing)
    × ((l.over
    && list_all (λ model. is_over l.active.tree l.tick model (start_of l.fn.standing.list.marks model.id))
    (filter (λ model. is_unfinished l.fn.standing.list.marks model.id) (at_indices l.active.tree.models (drop l.position l.indices))))
    ≡ list_all (λ model. is_over l.active.tree l.tick model (start_of l.fn.standing.list.marks model.id))
    (filter (λ model. is_unfinished l.fn.standing.list.marks model.id) (at_indices l.active.tree.models l.indices)))

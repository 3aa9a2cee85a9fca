use Rattle.std.proofs.Common.{◌≡◌, ◌+◌, ◌≤◌, drop, fold}
use Rattle.frame_exchange.specs.Sides.{retired_by}
use Rattle.run_rules.specs.Runs.{tree_after_hearing}
use Rattle.side_main.proofs.hearing.hear_all.Given as goal

abbrev pub invariant-loop-event : goal.invariant-loop-event
invariant-loop-event g l =
    (l.tree.book ≡ l.fn.tree.book)
    × (fold tree_after_hearing l.tree.tree (drop l.event-index l.events) ≡ fold tree_after_hearing l.fn.tree.tree l.events)
    × (l.retired + retired_by l.tree.tree (drop l.event-index l.events) ≡ retired_by l.fn.tree.tree l.events)
    × (l.retired ≤ l.event-index)

use Rattle.std.proofs.Common.{◌≡◌, ◌++◌, take}
use Rattle.std.specs.Prelude.{vec_capacity}
use Rattle.event_queue.proofs.queue.append_reserved.Given as goal

abbrev pub invariant-loop-event : goal.invariant-loop-event
invariant-loop-event l =
    (l.into.items ≡ l.initial.into.items ++ take l.event-index l.events) × (vec_capacity l.into ≡ vec_capacity l.initial.into)

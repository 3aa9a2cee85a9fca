use Rattle.std.proofs.Common.{◌≡◌}
use Rattle.base_tests.specs.Notes.{notes}
use Rattle.base_tests.proofs.lanes.make_sections.Given as goal

-- each section so far added one entry of the lane's own
abbrev pub invariant-loop-made : goal.invariant-loop-made
invariant-loop-made g l = record {
  lock : l.seat.lock ≡ l.initial.seat.lock;
  lane : l.seat.lane ≡ l.lane;
  subject : l.seat.subject ≡ l.initial.seat.subject;
  mine : l.seat.mine ≡ notes l.lane l.made;
}

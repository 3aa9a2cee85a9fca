use Rattle.std.proofs.Common.{◌≡◌}
use Rattle.lane_threads.specs.Knowing.{KnowsMain}
use Rattle.lane_threads.proofs.main_turns.main_lane.Given as goal

abbrev pub invariant-loop-number : goal.invariant-loop-number
invariant-loop-number g l = record {
  lock : l.seat.lock ≡ l.lock;
  knows : KnowsMain l.script l.seat (g.M.MainSteps.state l.side) l.counts.items;
  steps : (g.M.MainSteps.state l.side).steps ≡ l.number;
}

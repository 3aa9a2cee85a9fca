use Rattle.std.proofs.Common.{◌≡◌}
use Rattle.lane_threads.specs.Knowing.{KnowsCompositor}
use Rattle.lane_threads.proofs.compositor_turns.compositor_lane.Given as goal

abbrev pub invariant-loop-number : goal.invariant-loop-number
invariant-loop-number g l = record {
  lock : l.seat.lock ≡ l.lock;
  knows : KnowsCompositor l.script l.seat (g.C.CompositorSteps.state l.side) l.frames.items;
  steps : (g.C.CompositorSteps.state l.side).steps ≡ l.number;
}

-- Each turn before this one was interrupted: it moved no byte, and was counted.
use Rattle.std.proofs.Common.{◌≡◌, ◌<◌, ◌≤◌}
use Rattle.edge_io.specs.Edges.{HasRisen}
use Rattle.edge_io.proofs.std_sink.StdSinkSink.write.Given as goal

abbrev pub invariant-loop : goal.invariant-loop
invariant-loop g l = record {
  same : l.self.taken ≡ l.initial.self.taken;
  never_falls : l.initial.self.faults ≤ l.self.faults;
  counted : 0 < l.counter → HasRisen l.initial.self.faults l.self.faults;
}

use Rattle.std.proofs.Common.{◌≤◌, ◌-◌, length, take}
use Rattle.edge_io.specs.Edges.{Took}
use Rattle.anim_top.proofs.outlet.write_all.Given as goal

abbrev pub invariant-loop-count : goal.invariant-loop-count
invariant-loop-count g l = record {
  taken : Took (g.K.Sink.taken l.fn.sink) (g.K.Sink.taken l.sink) (take l.count l.text);
  within : l.count ≤ length l.text;
  never_falls : g.K.Sink.faults l.fn.sink ≤ g.K.Sink.faults l.sink;
}

abbrev pub decreases-loop-count : goal.decreases-loop-count
decreases-loop-count g l = length l.text - l.count

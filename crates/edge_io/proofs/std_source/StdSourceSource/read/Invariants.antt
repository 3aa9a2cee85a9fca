-- Each turn before this one was interrupted: it moved no byte, and was counted.
use Rattle.std.proofs.Common.{◌<◌, ◌≤◌}
use Rattle.std.specs.Io.KnownBytes.{Keeps}
use Rattle.edge_io.specs.Edges.{HasRisen}
use Rattle.edge_io.proofs.std_source.StdSourceSource.read.Given as goal

abbrev pub invariant-loop : goal.invariant-loop
invariant-loop g l = record {
  kept : Keeps (g.R.Read.remaining l.initial.self-inside.inner) (g.R.Read.remaining l.self-inside.inner);
  never_falls : l.initial.self-inside.faults ≤ l.self-inside.faults;
  counted : 0 < l.counter → HasRisen l.initial.self-inside.faults l.self-inside.faults;
}

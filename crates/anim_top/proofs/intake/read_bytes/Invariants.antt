use Rattle.std.proofs.Common.{◌≤◌, ◌-◌, length}
use Rattle.edge_io.specs.Edges.{Gave}
use Rattle.anim_top.specs.Outside.{most_read}
use Rattle.anim_top.proofs.intake.read_bytes.Given as goal

abbrev pub invariant-loop-bytes : goal.invariant-loop-bytes
invariant-loop-bytes g l = record {
  given : Gave (g.S.Source.left l.fn.source) (g.S.Source.left l.source) l.bytes.items;
  few : length l.bytes.items ≤ most_read;
  never_falls : g.S.Source.faults l.fn.source ≤ g.S.Source.faults l.source;
}

abbrev pub decreases-loop-bytes : goal.decreases-loop-bytes
decreases-loop-bytes g l = most_read - length l.bytes.items

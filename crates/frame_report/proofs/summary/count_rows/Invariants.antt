use Rattle.std.proofs.Common.{◌≡◌, ◌*◌, ◌^◌, ◌≤◌, take}
use Rattle.frame_report.specs.Summaries.{count_rows}
use Rattle.frame_report.proofs.summary.count_rows.Given as goal

abbrev pub invariant-loop-frame : goal.invariant-loop-frame
invariant-loop-frame l = (l.count ≡ count_rows (take l.frame-index l.frames)) × (l.count ≤ l.frame-index * 2 ^ 64)

use Rattle.std.proofs.Common.{◌≡◌, ◌++◌, take, string_bytes}
use Rattle.std.specs.List.{flat_map}
use Rattle.frame_report.specs.Texts.{frame_lines}
use Rattle.frame_report.proofs.texts.print_frames.Given as goal

abbrev pub invariant-loop-frame : goal.invariant-loop-frame
invariant-loop-frame l = string_bytes l.out ≡ string_bytes l.fn.out ++ flat_map frame_lines (take l.frame-index l.frames)

use Rattle.std.proofs.Common.{◌≡◌, ◌++◌, take, string_bytes}
use Rattle.std.specs.List.{flat_map}
use Rattle.frame_report.specs.Texts.{heard_line}
use Rattle.frame_report.proofs.texts.print_heard.Given as goal

abbrev pub invariant-loop-count : goal.invariant-loop-count
invariant-loop-count l = string_bytes l.out ≡ string_bytes l.fn.out ++ flat_map heard_line (take l.count-index l.heard)

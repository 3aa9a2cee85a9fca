use Rattle.std.proofs.Common.{◌≡◌, ◌++◌, take, string_bytes}
use Rattle.std.specs.List.{flat_map}
use Rattle.frame_script.specs.Printing.{compositor_line}
use Rattle.script_printer.proofs.printing.print_compositor.Given as goal

abbrev pub invariant-loop-step : goal.invariant-loop-step
invariant-loop-step l = string_bytes l.out ≡ string_bytes l.fn.out ++ flat_map compositor_line (take l.step-index l.steps)

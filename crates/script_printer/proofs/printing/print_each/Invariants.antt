use Rattle.std.proofs.Common.{◌≡◌, ◌++◌, take, string_bytes}
use Rattle.std.specs.List.{flat_map}
use Rattle.run_rules.specs.Views.{step_of}
use Rattle.frame_script.specs.Printing.{step_lines}
use Rattle.script_printer.proofs.printing.print_each.Given as goal

abbrev pub invariant-loop-step : goal.invariant-loop-step
invariant-loop-step l = string_bytes l.out ≡ string_bytes l.fn.out ++ flat_map (λ step. step_lines (step_of step)) (take l.step-index l.steps)

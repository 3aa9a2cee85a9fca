use Rattle.std.proofs.Common.{◌++◌, ap, sym, ◌∙◌, string_bytes}
use Rattle.std.proofs.lemmas.Result.{on_ok_weaker}
use Rattle.run_rules.specs.Views.{step_of}
use Rattle.frame_script.specs.Printing.{step_lines}
use Rattle.script_printer.proofs.TextSteps.{flat_map-map}
use Rattle.script_printer.proofs.printing.print_steps.Goals as goal

pub returns : goal.returns
returns c =
    on_ok_weaker c.print_each.result (λ e. e ∙ ap (λ bytes. string_bytes c.args.out.now ++ bytes) (sym (flat_map-map step_lines step_of c.args.steps.now))) c.print_each.ensures

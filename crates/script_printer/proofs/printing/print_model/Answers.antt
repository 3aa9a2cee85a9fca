use Rattle.std.proofs.Common.{◌∙◌, string_bytes}
use Rattle.std.proofs.lemmas.Result.{on_ok_weaker}
use Rattle.keyframe_model.specs.Views.{curve_of}
use Rattle.script_printer.proofs.TextSteps.{model_written}
use Rattle.script_printer.proofs.printing.print_model.Goals as goal

pub returns : goal.returns
returns c =
    on_ok_weaker c.print_keys.result (λ e. e ∙
    model_written c.args.model.now c.timing.result.now c.policy.result (curve_of c.curve.result.now) (curve_of c.curve-2.result.now) (string_bytes c.args.out.now)
    (string_bytes c.print_names.new.out) (string_bytes c.print_timing.new.out) (string_bytes c.print_curve_fields.new.out)
    c.timing.ensures c.policy.ensures c.curve.ensures c.curve-2.ensures
    c.in_ok-print_names.ensures c.in_ok-print_timing.ensures c.in_ok-print_curve_fields.ensures) c.print_keys.ensures

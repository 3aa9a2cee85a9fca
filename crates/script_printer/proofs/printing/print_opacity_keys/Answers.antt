use Rattle.std.proofs.Common.{ap, ◌∙◌, ◌++◌, string_bytes}
use Rattle.frame_script.specs.Printing.{opacity_fields, key_line}
use Rattle.script_fields.proofs.TextLemmas.{one_more}
use Rattle.script_printer.proofs.printing.print_opacity_keys.Goals as goal

pub loop-i-preserved : goal.loop-i-preserved
loop-i-preserved c =
    c.in_ok-print_opacity_key.ensures ∙ ap (λ bytes. bytes ++ key_line opacity_fields c.key.result.now) c.loop-i.invariant
    ∙ one_more (key_line opacity_fields) (string_bytes c.args.out.now) c.args.curve.now.keys c.loop-i.i c.key.result.now c.key.ensures

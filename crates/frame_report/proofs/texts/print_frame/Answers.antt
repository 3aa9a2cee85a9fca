use Rattle.std.proofs.Common.{ap, ◌∙◌, ◌++◌, string_bytes}
use Rattle.element_samples.specs.Views.{drawn_row_of}
use Rattle.frame_report.specs.Texts.{row_line}
use Rattle.script_fields.proofs.TextLemmas.{one_more}
use Rattle.frame_report.proofs.texts.print_frame.Goals as goal

pub loop-i-preserved : goal.loop-i-preserved
loop-i-preserved c =
    c.in_ok-print_row.ensures ∙ ap (λ bytes. bytes ++ row_line (drawn_row_of c.row.result.now)) c.loop-i.invariant
    ∙ one_more row_line (string_bytes c.writeln.new.self) c.args.frame.now.rows c.loop-i.i (drawn_row_of c.row.result.now) c.row.ensures

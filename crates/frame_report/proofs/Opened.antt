-- What the check opens to compute the text of a report.
use Rattle.std.specs.Prelude.{ℕ}
use Rattle.std.specs.Fmt.{digits}
use Rattle.script_fields.specs.Printed.{axes_text, turn_text, operation_text}
use Rattle.frame_report.specs.Texts.{report_text}

unfoldable pub whole_text : ℕ
unfolding digits axes_text turn_text operation_text report_text
whole_text = 0

use Rattle.std.proofs.Common.{arith, rules}
use Rattle.std.proofs.lemmas.Grind.{common_steps}
use Rattle.script_fields.specs.Printed.{operation_text}
use Rattle.script_fields.proofs.printed.print_operation.Goals as goal

pub returns-in_ok-push_str-in-Translate : goal.returns-in_ok-push_str-in-Translate
unfolding operation_text
returns-in_ok-push_str-in-Translate c = grind (arith, common_steps)

pub returns-in_ok-push_str-in-Scale : goal.returns-in_ok-push_str-in-Scale
unfolding operation_text
returns-in_ok-push_str-in-Scale c = grind (arith, common_steps)

pub returns-in-Rotate : goal.returns-in-Rotate
unfolding operation_text
returns-in-Rotate c = search rules

pub returns-in_ok-print_number-in-Skew : goal.returns-in_ok-print_number-in-Skew
unfolding operation_text
returns-in_ok-print_number-in-Skew c = grind (arith, common_steps)

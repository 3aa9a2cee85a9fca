use Rattle.std.proofs.Common.{◌++◌, ap, ◌∙◌, append_assoc, string_bytes}
use Rattle.std.proofs.lemmas.Int.{to_z-of_z}
use Rattle.script_fields.specs.Printed.{number_text, axes_text}
use Rattle.script_fields.proofs.TextLemmas.{on_ok-appended}
use Rattle.script_fields.proofs.printed.print_axes.Goals as goal

pub returns : goal.returns
unfolding axes_text
returns c =
    let x = c.ranges.x in
    let y = c.ranges.y in
    let z = c.ranges.z in
    let old = string_bytes c.args.out.now in
    let first = number_text c.args.x in
    let second = number_text c.args.y in
    on_ok-appended c.print_number-3.result old (string_bytes c.print_number-2.new.out) (string_bytes c.print_number-3.new.out)
    (first ++ second) (number_text c.args.z)
    ((simp to_z-of_z at c.in_ok-print_number-2.ensures) ∙ ap (λ bytes. bytes ++ second) (simp to_z-of_z at c.in_ok-print_number.ensures) ∙ append_assoc old first second)
    (simp to_z-of_z at c.print_number-3.ensures)

use Rattle.std.proofs.Common.{codes, ◌++◌, string_bytes}
use Rattle.std.proofs.lemmas.Int.{to_z-of_z}
use Rattle.script_fields.specs.Printed.{number_text, axes_text, cubic_text}
use Rattle.script_fields.proofs.TextLemmas.{on_ok-appended}
use Rattle.script_fields.proofs.printed.print_cubic.Goals as goal

pub returns : goal.returns
unfolding cubic_text
returns c =
    let x1 = c.ranges.x1 in
    let y1 = c.ranges.y1 in
    let x2 = c.ranges.x2 in
    let y2 = c.ranges.y2 in
    let axes = axes_text c.args.x1 c.args.y1 c.args.x2 in
    let turn = number_text c.args.y2 in
    on_ok-appended c.print_number.result (string_bytes c.args.out.now) (string_bytes c.push_str.new.self) (string_bytes c.print_number.new.out)
    (codes "cubic") (axes ++ turn) c.in_ok-push_str.ensures.bytes
    (on_ok-appended c.print_number.result (string_bytes c.push_str.new.self) (string_bytes c.print_axes.new.out) (string_bytes c.print_number.new.out)
    axes turn (simp to_z-of_z at c.in_ok-print_axes.ensures) (simp to_z-of_z at c.print_number.ensures))

use Rattle.std.proofs.Common.{codes, ◌++◌, string_bytes}
use Rattle.std.proofs.lemmas.Int.{to_z-of_z}
use Rattle.script_fields.specs.Printed.{number_text, axes_text, turn_text}
use Rattle.script_fields.proofs.TextLemmas.{on_ok-appended}
use Rattle.script_fields.proofs.printed.print_turn.Goals as goal

pub returns : goal.returns
unfolding turn_text
returns c =
    let x = c.ranges.x in
    let y = c.ranges.y in
    let z = c.ranges.z in
    let angle = c.ranges.angle in
    let axes = axes_text c.args.x c.args.y c.args.z in
    let turn = number_text c.args.angle in
    on_ok-appended c.print_number.result (string_bytes c.args.out.now) (string_bytes c.push_str.new.self) (string_bytes c.print_number.new.out)
    (codes "rotate") (axes ++ turn) c.in_ok-push_str.ensures.bytes
    (on_ok-appended c.print_number.result (string_bytes c.push_str.new.self) (string_bytes c.print_axes.new.out) (string_bytes c.print_number.new.out)
    axes turn (simp to_z-of_z at c.in_ok-print_axes.ensures) (simp to_z-of_z at c.print_number.ensures))

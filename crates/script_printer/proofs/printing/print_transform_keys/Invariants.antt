use Rattle.std.proofs.Common.{◌≡◌, ◌++◌, take, string_bytes}
use Rattle.std.specs.List.{flat_map}
use Rattle.script_fields.specs.Printed.{list_fields}
use Rattle.frame_script.specs.Printing.{key_line}
use Rattle.script_printer.proofs.printing.print_transform_keys.Given as goal

abbrev pub invariant-loop-i : goal.invariant-loop-i
invariant-loop-i l = string_bytes l.out ≡ string_bytes l.initial.out ++ flat_map (key_line list_fields) (take l.i l.curve.keys)

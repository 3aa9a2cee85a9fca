use Rattle.std.proofs.Common.{◌≡◌, ◌++◌, take, string_bytes}
use Rattle.std.specs.List.{flat_map}
use Rattle.frame_script.specs.Printing.{opacity_fields, key_line}
use Rattle.script_printer.proofs.printing.print_opacity_keys.Given as goal

abbrev pub invariant-loop-i : goal.invariant-loop-i
invariant-loop-i l = string_bytes l.out ≡ string_bytes l.initial.out ++ flat_map (key_line opacity_fields) (take l.i l.curve.keys)

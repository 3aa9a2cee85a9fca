use Rattle.std.proofs.Common.{◌≡◌, ◌++◌, map, take, string_bytes}
use Rattle.script_fields.specs.Printed.{letter}
use Rattle.script_fields.proofs.printed.print_word.Given as goal

abbrev pub invariant-loop-lane : goal.invariant-loop-lane
invariant-loop-lane l = string_bytes l.out ≡ string_bytes l.fn.out ++ map letter (take l.lane-index l.word)

use Rattle.std.proofs.Common.{◌≡◌}
use Rattle.std.specs.List.{flat_map, range_with_len}
use Rattle.script_gen.specs.Generated.{ticking_steps}
use Rattle.script_gen.proofs.compositor_steps.compositor_steps.Given as goal

abbrev pub invariant-loop-j : goal.invariant-loop-j
invariant-loop-j l = l.steps.items ≡ flat_map ticking_steps (range_with_len 0 l.j)

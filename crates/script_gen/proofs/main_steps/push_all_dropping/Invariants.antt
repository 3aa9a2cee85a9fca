use Rattle.std.proofs.Common.{◌≡◌, ◌-◌, ◌++◌, map}
use Rattle.std.specs.List.{flat_map, range_with_len}
use Rattle.run_rules.specs.Views.{step_of}
use Rattle.script_gen.specs.Generated.{dropping_steps}
use Rattle.script_gen.proofs.main_steps.push_all_dropping.Given as goal

abbrev pub invariant-loop-i : goal.invariant-loop-i
invariant-loop-i l = map step_of l.steps.items ≡ map step_of l.fn.steps.items ++ flat_map dropping_steps (range_with_len 1 (l.i - 1))

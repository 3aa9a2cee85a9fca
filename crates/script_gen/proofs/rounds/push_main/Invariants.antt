use Rattle.std.proofs.Common.{◌≡◌, ◌++◌, replicate}
use Rattle.anim_names.specs.declared.lane.Lane.TheVariants.{Main}
use Rattle.script_gen.proofs.rounds.push_main.Given as goal

abbrev pub invariant-loop-step : goal.invariant-loop-step
invariant-loop-step l = l.word.items ≡ l.fn.word.items ++ replicate l._step Main

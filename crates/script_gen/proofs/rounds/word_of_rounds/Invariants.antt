use Rattle.std.proofs.Common.{◌≡◌, ◌-◌, ◌++◌}
use Rattle.script_gen.specs.Generated.{word_of_rounds}
use Rattle.script_gen.proofs.rounds.word_of_rounds.Given as goal

-- the rounds so far, and the word of what is left, are the whole word
abbrev pub invariant-loop-round : goal.invariant-loop-round
invariant-loop-round l = l.word.items ++ word_of_rounds l.left (l.compositor - l._round) ≡ word_of_rounds l.main l.compositor

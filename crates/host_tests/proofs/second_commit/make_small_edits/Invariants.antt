use Rattle.host_tests.specs.Steps.{OnlyElementsAreNew}
use Rattle.host_tests.proofs.second_commit.make_small_edits.Given as goal

abbrev pub invariant-loop-step : goal.invariant-loop-step
invariant-loop-step g l = OnlyElementsAreNew l.initial.main.tree l.main.tree

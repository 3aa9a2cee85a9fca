use Rattle.std.proofs.Common.{◌≡◌}
use Rattle.host_tests.proofs.frames.expect_ticks.Given as goal

abbrev pub invariant-loop-ticked : goal.invariant-loop-ticked
invariant-loop-ticked g l = l.active ≡ l.host.active

use Rattle.std.proofs.Common.{◌≡◌}
use Rattle.host_tests.proofs.tables.expect_blockers_of_ticks.Given as goal

abbrev pub invariant-loop-time : goal.invariant-loop-time
invariant-loop-time g l = l.active ≡ l.host.active

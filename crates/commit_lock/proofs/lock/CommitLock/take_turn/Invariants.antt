use Rattle.std.proofs.Common.{◌≡◌}
use Rattle.commit_lock.proofs.lock.CommitLock.take_turn.Given as goal

-- a try that found the turn taken changed nothing
abbrev pub invariant-loop : goal.invariant-loop
invariant-loop g l = (l.table_seat.table_id ≡ l.initial.table_seat.table_id) × (l.table_seat.me ≡ l.initial.table_seat.me)

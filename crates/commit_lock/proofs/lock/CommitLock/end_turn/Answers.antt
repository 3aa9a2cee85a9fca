use Rattle.std.proofs.Common.{rules}
use Rattle.commit_lock.proofs.Moves.{ends_turn}
use Rattle.commit_lock.proofs.lock.CommitLock.end_turn.Goals as goal

pub store-requires : goal.store-requires
store-requires g c = (search rules, search rules, ends_turn g.V.Journaled.journal g.V.Journaled.subject _ _ _ _ c.requires.stands.stage_is c.requires.stands.alone)

use Rattle.std.proofs.Common.{rules}
use Rattle.commit_lock.proofs.Moves.{puts_back}
use Rattle.commit_lock.proofs.lock.CommitLock.put_back.Goals as goal

pub load-requires : goal.load-requires
load-requires g c =
    let held = c.requires.value in
    (search rules, search rules, puts_back g.V.Journaled.journal g.V.Journaled.subject _ _ _ _ held.0 held.1 held.2 held.3 c.requires.stands.stage_is c.requires.stands.alone)

use Rattle.std.proofs.Common.{◌≡◌, ap, ◌∙◌, subst}
use Rattle.commit_lock.specs.Journals.{entries_of}
use Rattle.commit_lock.specs.Seats.{Section}
use Rattle.commit_lock.proofs.Lanes.{own_grows}
use Rattle.commit_lock.proofs.lock.CommitLock.release.Goals as goal

pub returns-clause-mine : goal.returns-clause-mine
returns-clause-mine g c added is =
    let held = c.args.held in
    let own = subst (λ (h : Section _). entries_of h.seat.lane h.seat.seen ≡ h.seat.mine) c.held.view_is c.held.invariant.2 in
    ap (λ m. m.0.own.mine) c.end_turn.ensures.turn
    ∙ (ap (λ m. m.0.own.mine) c.put_back.ensures.home
    ∙ (ap (λ m. m.0.own.mine) c.count.ensures.counted
    ∙ (ap (λ (h : Section _). entries_of h.seat.lane (g.V.Journaled.journal h.value)) c.held.view_is
    ∙ own_grows held.seat.lane held.seat.seen (g.V.Journaled.journal held.value) held.seat.mine own c.requires.grown added is)))

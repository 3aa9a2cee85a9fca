use Rattle.std.proofs.Common.{rules, ap}
use Rattle.commit_lock.proofs.Ends.{begins, splits}
use Rattle.commit_lock.proofs.lock.CommitLock.new.Goals as goal

pub new-requires : goal.new-requires
new-requires g c =
    rw (c.push_reserved.ensures.items, c.in_ok-slots.ensures.items, c.of-about.ensures) (begins g.V.Journaled.journal g.V.Journaled.subject c.args.value c.requires)

pub split_seat-compositor-requires : goal.split_seat-compositor-requires
split_seat-compositor-requires g c =
    let me = c.in-Ok.ensures.ok.4 in (
      search rules,
      search rules,
      splits g.V.Journaled.journal g.V.Journaled.subject _ _ _
          (λ e. absurd (cc (ap (λ m. m.0.own.stage) me, e)))
          (λ e. absurd (cc (ap (λ m. m.0.other.stage) me, e))),
    )

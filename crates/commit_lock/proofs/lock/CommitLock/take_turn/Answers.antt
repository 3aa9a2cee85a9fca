use Rattle.std.proofs.Common.{rules, sym, ap, ◌∙◌}
use Rattle.commit_lock.specs.Rules.{number_of}
use Rattle.commit_lock.proofs.Moves.{takes_turn}
use Rattle.commit_lock.proofs.lock.CommitLock.take_turn.Goals as goal

pub compare_exchange-found-requires : goal.compare_exchange-found-requires
compare_exchange-found-requires g c =
    let me = c.loop.invariant.1 in
    let stands = c.requires.stands in (
      search rules,
      search rules,
      takes_turn g.V.Journaled.journal g.V.Journaled.subject _ _ _ _ _
          (c.lane_number-number.ensures ∙ ap number_of (sym (ap (λ m. m.0.lane) me ∙ stands.1)))
          (ap (λ m. m.0.own.stage) me ∙ stands.0.stage_is)
          (ap (λ m. m.0.other) me ∙ stands.0.alone),
    )

use Rattle.std.proofs.Common.{rules, sym, ap, ◌∙◌, ◌∷◌, Some, subst}
use Rattle.atomic_table.specs.Table.{rest}
use Rattle.commit_lock.specs.Journals.{IsGrownBy}
use Rattle.commit_lock.proofs.Moves.{counts}
use Rattle.commit_lock.proofs.lock.CommitLock.count.Goals as goal

pub store-requires : goal.store-requires
store-requires g c =
    let stands = c.requires.stands in
    let me = c.exchange.ensures.3 in (
      search rules,
      search rules,
      counts g.V.Journaled.journal g.V.Journaled.subject _ _ _ _ c.args.value _
          (ap (λ m. m.1) me ∙ ap (λ l. (0, Some c.args.value) ∷ rest l) stands.slots_are)
          c.entry_count-count.ensures
          (ap (λ m. m.0.own.stage) me ∙ stands.stage_is)
          (ap (λ m. m.0.other) me ∙ stands.alone)
          (subst (λ m. IsGrownBy m.0.lane m.0.own.seen (g.V.Journaled.journal c.args.value)) (sym me) c.requires.grown),
    )

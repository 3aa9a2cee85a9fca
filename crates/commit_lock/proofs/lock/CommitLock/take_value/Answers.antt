use Rattle.std.proofs.Common.{rules, sym, ap, ◌∙◌, ◌∷◌, Some}
use Rattle.atomic_table.specs.Table.{rest}
use Rattle.commit_lock.proofs.Moves.{takes_value}
use Rattle.commit_lock.proofs.lock.CommitLock.take_value.Goals as goal

pub load-requires : goal.load-requires
load-requires g c = (search rules, search rules, takes_value g.V.Journaled.journal g.V.Journaled.subject _ _ _ _ c.requires.stands.stage_is c.requires.stands.alone)

pub exchange-requires : goal.exchange-requires
exchange-requires g c =
    let taken = c.load.ensures.2 in
    let slots = ap (λ m. m.1) taken.1 in
    (search rules, (Some taken.0, slots ∙ ap (λ l. (0, Some taken.0) ∷ l) (sym (ap rest slots))))

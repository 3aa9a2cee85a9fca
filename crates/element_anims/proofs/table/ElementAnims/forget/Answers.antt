use Rattle.element_anims.proofs.RowLemmas.{row-removed, no_idle-removed}
use Rattle.element_anims.proofs.table.ElementAnims.forget.Goals as goal

pub invariant_of-self : goal.invariant_of-self
invariant_of-self c = no_idle-removed c.args.element _ _ c.swap_remove.ensures.updates.0 c.self.invariant

pub returns-clause-row : goal.returns-clause-row
returns-clause-row c = rw (← c.self.view_is) (row-removed c.args.element _ _ c.swap_remove.ensures.updates.0)

use Rattle.element_anims.proofs.RowLemmas.{no_idle-put}
use Rattle.element_anims.proofs.table.ElementAnims.add.Goals as goal

pub invariant_of-self : goal.invariant_of-self
invariant_of-self c = no_idle-put c.args.element _ _ c.args.row c.requires.says c.in-Ok.ensures.updates.0 c.self.invariant

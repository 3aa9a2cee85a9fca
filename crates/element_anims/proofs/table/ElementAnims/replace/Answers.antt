use Rattle.std.proofs.Common.{nat_eq, IsSome, subst, sym}
use Rattle.std.specs.Map.{lookup}
use Rattle.element_anims.proofs.RowLemmas.{no_idle-put}
use Rattle.element_anims.proofs.table.ElementAnims.replace.Goals as goal

pub invariant_of-self : goal.invariant_of-self
invariant_of-self c =
    let there = subst (λ table. IsSome (lookup (nat_eq c.args.element) table.rows)) (sym c.self.view_is) c.requires.there in
    no_idle-put c.args.element _ _ c.args.row c.requires.says ((c.get_mut.follows.holds _).3 there).0 c.self.invariant

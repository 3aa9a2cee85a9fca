use Rattle.std.proofs.Common.{ap, sym, subst, ◌∙◌}
use Rattle.std.specs.Prelude.{IsSome}
use Rattle.host_tables.specs.Groups.{Groups, group_at}
use Rattle.host_tables.proofs.ElementLemmas.{apart-test}
use Rattle.host_tables.proofs.groups.GroupTable.replace.Goals as goal

pub returns-clause-others : goal.returns-clause-others
returns-clause-others c =
    let there = subst (λ (g : Groups). IsSome (group_at g c.args.group)) (sym c.self.view_is) c.requires.there in
    λ id other.
    ((c.get_mut.follows.holds _).3 there).2 id (apart-test c.args.group id (λ same. other (sym same)))
    ∙ ap (λ (g : Groups). group_at g id) c.self.view_is

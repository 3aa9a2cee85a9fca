use Rattle.std.proofs.Common.{arith, ap, sym, ◌∙◌}
use Rattle.std.specs.Prelude.{IsOk}
use Rattle.host_tables.specs.Groups.{Groups, group_at}
use Rattle.host_tables.proofs.ElementLemmas.{apart-test}
use Rattle.host_tables.proofs.RowLemmas.{from_ok}
use Rattle.host_tables.proofs.groups.GroupTable.put.Goals as goal

pub returns-clause-others : goal.returns-clause-others
returns-clause-others c =
    let some_room = rw (← c.self.view_is) at c.requires.room in
    let fits = c.self.invariant in
    let ok : IsOk c.insert.result = c.insert.ensures.succeeds (omega arith) in
    let put = from_ok c.insert.result ok c.insert.ensures.updates in
    λ id other.
    put.2 id (apart-test c.args.group id (λ same. other (sym same)))
    ∙ ap (λ (g : Groups). group_at g id) c.self.view_is

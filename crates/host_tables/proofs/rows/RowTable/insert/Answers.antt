use Rattle.std.proofs.Common.{arith, ◌∙◌, ap}
use Rattle.std.specs.Prelude.{IsOk}
use Rattle.host_tables.specs.Rows.{Rows, row_at}
use Rattle.host_tables.proofs.RowLemmas.{from_ok, lead-insert, others-insert}
use Rattle.host_tables.proofs.rows.RowTable.insert.Goals as goal

pub invariant_of-self : goal.invariant_of-self
invariant_of-self c =
    let some_room = rw (← c.self.view_is) at c.requires.room in
    let fits = c.self.invariant.2 in
    let ok : IsOk c.insert.result = c.insert.ensures.succeeds (omega arith) in
    let put = from_ok c.insert.result ok c.insert.ensures.updates in
    let up = c.insert_reserved-key.ensures.updates in (
      lead-insert c.self.inside.rows.slots c.insert_reserved-key.new.self.slots c.self.inside.keys.entries c.insert.new.self.entries
          c.insert_reserved-key.result c.args.row c.self.invariant.0 c.insert_reserved-key.ensures.was_vacant up.changed up.others put.0,
      (let had = c.self.invariant.1 in let len = c.insert_reserved-key.ensures.len in let cap = c.insert_reserved-key.ensures.capacity in omega arith),
      (let spare = c.insert.ensures.spare in omega arith),
    )

pub returns-clause-others : goal.returns-clause-others
returns-clause-others c =
    let some_room = rw (← c.self.view_is) at c.requires.room in
    let fits = c.self.invariant.2 in
    let ok : IsOk c.insert.result = c.insert.ensures.succeeds (omega arith) in
    let put = from_ok c.insert.result ok c.insert.ensures.updates in
    let up = c.insert_reserved-key.ensures.updates in
    λ id other.
    others-insert c.self.inside.rows.slots c.insert_reserved-key.new.self.slots c.self.inside.keys.entries c.insert.new.self.entries
    c.insert_reserved-key.result c.args.row c.self.invariant.0 c.insert_reserved-key.ensures.was_vacant up.others put.0 id other
    ∙ ap (λ (r : Rows). row_at r id) c.self.view_is

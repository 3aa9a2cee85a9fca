use Rattle.std.proofs.Common.{◌≡◌, ◌∙◌, ap, false, arith}
use Rattle.tree_commit.specs.Edits.{is_in}
use Rattle.tree_commit.proofs.BookLemmas.{insert_key-new, from_ok}
use Rattle.tree_commit.proofs.edits.edit_book.EditBook.add_model.Goals as goal

pub returns-clause-ok : goal.returns-clause-ok
returns-clause-ok c =
    let absent : is_in c.args.spec.now.id c.self.inside.models.keys ≡ false =
    ap (λ b. is_in c.args.spec.now.id b.models) c.self.view_is ∙ c.requires in
    let ok = c.insert.ensures.succeeds (omega (arith, c.in_ok-reserve.ensures.ok)) in
    let keys = from_ok c.insert.result ok c.insert.ensures.keys in
    rw (← c.self.view_is, keys, c.in_ok-reserve.ensures.keys, c.id.ensures.value, insert_key-new, c.in_ok-add_member.ensures.ok)

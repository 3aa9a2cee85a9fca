use Rattle.std.proofs.Common.{◌≡◌, ap, ◌∙◌, false}
use Rattle.tree_commit.specs.Edits.{is_in}
use Rattle.tree_commit.proofs.BookLemmas.{insert_key-new}
use Rattle.tree_commit.proofs.edits.edit_book.EditBook.add_element.Goals as goal

pub returns-clause-ok : goal.returns-clause-ok
returns-clause-ok c =
    let absent : is_in c.args.id c.self.inside.elements.keys ≡ false = ap (λ b. is_in c.args.id b.elements) c.self.view_is ∙ c.requires.absent in
    rw (← c.self.view_is, c.in_ok-insert.ensures.keys, insert_key-new)

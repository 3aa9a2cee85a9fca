use Rattle.tree_commit.proofs.BookLemmas.{with_member-first}
use Rattle.tree_commit.proofs.edits.edit_book.add_first.Goals as goal

pub returns-clause-ok : goal.returns-clause-ok
returns-clause-ok c =
    rw (c.in_ok-insert.ensures.entries, c.group.ensures)
    (with_member-first c.args.commits c.args.spec.now c.in_ok-shape.shape c.args.groups.now.entries c.in_ok-shape.ensures c.requires)

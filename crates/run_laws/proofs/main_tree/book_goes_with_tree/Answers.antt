use Rattle.run_laws.proofs.BookLaws.{book_goes_with_tree}
use Rattle.run_laws.proofs.main_tree.book_goes_with_tree.Goals as goal

pub returns : goal.returns
returns c = book_goes_with_tree

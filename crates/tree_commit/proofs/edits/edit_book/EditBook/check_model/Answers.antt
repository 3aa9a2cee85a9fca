use Rattle.std.proofs.Common.{◌∙◌}
use Rattle.tree_commit.proofs.BookLemmas.{edit_refusal-parts}
use Rattle.tree_commit.proofs.edits.edit_book.EditBook.check_model.Goals as goal

pub returns-clause-as_check : goal.returns-clause-as_check
returns-clause-as_check c = λ model parts. c.check_parts.ensures ∙ edit_refusal-parts _ _ _ _ _ _ _ _ parts

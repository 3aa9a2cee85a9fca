use Rattle.std.proofs.Common.{ap, sym, ◌∙◌}
use Rattle.tree_commit.specs.Edits.{edit_refusal}
use Rattle.tree_commit.specs.Views.{change_of}
use Rattle.tree_commit.proofs.BookLemmas.{unused_id}
use Rattle.tree_commit.proofs.edits.edit_book.EditBook.note.Goals as goal

pub add_model-requires : goal.add_model-requires
add_model-requires c =
    rw c.deref.ensures
    (unused_id _ _ (ap (λ e. edit_refusal c.args.self.now (change_of e)) (sym c.in-AddModel.is) ∙ c.requires))

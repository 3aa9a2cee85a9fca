use Rattle.std.proofs.Common.{◌≡◌, false, sym, ◌∙◌}
use Rattle.tree_commit.specs.Views.{change_of}
use Rattle.main_tree.proofs.KeptLemmas.{after_edit-lost}
use Rattle.main_tree.proofs.tree.MainTree.edit.Goals as goal

pub returns-clause-lost : goal.returns-clause-lost
returns-clause-lost c = λ answer.
    let is_false : c.in_ok-make.field-0 ≡ false = cc in
    c.in_ok-make.ensures.made ∙ after_edit-lost c.args.self.now (change_of c.args.edit.now) (sym c.in_ok-make.ensures.found ∙ is_false)

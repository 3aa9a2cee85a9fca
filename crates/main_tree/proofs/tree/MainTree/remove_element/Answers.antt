use Rattle.std.proofs.Common.{◌≡◌, None, ap, ◌∙◌}
use Rattle.tree_commit.specs.Edits.{edit_refusal}
use Rattle.tree_commit.specs.Views.{change_of}
use Rattle.main_tree.specs.EditedTrees.{after_edit, edited_tables}
use Rattle.main_tree.proofs.MadeLemmas.{goes_after, element_removed}
use Rattle.main_tree.proofs.tree.MainTree.remove_element.Goals as goal

pub invariant_of-self-2 : goal.invariant_of-self-2
invariant_of-self-2 c =
    let at = c.self.inside in
    let allowed : edit_refusal at.book (change_of c.args.edit.now) ≡ None =
    ap (λ e. edit_refusal e.book (change_of c.args.edit.now)) c.self.view_is ∙ c.requires.allowed in
    let made = element_removed at.book at.elements.entries at.models.entries at.timelines.entries c.self.invariant.1 c.args.id (change_of c.args.edit.now) c.note.new.self c.take_out.new.elements.entries c.requires.is_this c.in_ok-note.ensures.noted c.take_out.ensures in
    (c.self.invariant.0, goes_after (edited_tables at.book at.elements.entries at.models.entries at.timelines.entries) _ (change_of c.args.edit.now) made allowed c.self.invariant.1)

pub returns-clause-made : goal.returns-clause-made
returns-clause-made c =
    let at = c.self.inside in
    let allowed : edit_refusal at.book (change_of c.args.edit.now) ≡ None =
    ap (λ e. edit_refusal e.book (change_of c.args.edit.now)) c.self.view_is ∙ c.requires.allowed in
    let made = element_removed at.book at.elements.entries at.models.entries at.timelines.entries c.self.invariant.1 c.args.id (change_of c.args.edit.now) c.note.new.self c.take_out.new.elements.entries c.requires.is_this c.in_ok-note.ensures.noted c.take_out.ensures in
    made ∙ ap (λ e. after_edit e (change_of c.args.edit.now)) c.self.view_is

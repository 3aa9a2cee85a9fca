use Rattle.std.proofs.Common.{ap, ◌∙◌}
use Rattle.keyframe_model.specs.Views.{shared_value_of}
use Rattle.tree_commit.specs.Edits.{OnElements, SetOwn, edit_refusal}
use Rattle.main_tree.specs.EditedTrees.{after_edit, edited_tables}
use Rattle.main_tree.proofs.MadeLemmas.{goes_after, own_set}
use Rattle.main_tree.proofs.tree.MainTree.set_own.Goals as goal

pub invariant_of-self : goal.invariant_of-self
invariant_of-self c =
    let at = c.self.inside in
    let made = own_set at.book at.elements.entries at.models.entries at.timelines.entries c.self.invariant.1 c.args.id (shared_value_of c.args.value) c.change_own.new.elements.entries c.change_own.ensures in
    (c.self.invariant.0, goes_after (edited_tables at.book at.elements.entries at.models.entries at.timelines.entries) _ (OnElements (SetOwn c.args.id (shared_value_of c.args.value))) made (ap (λ e. edit_refusal e.book (OnElements (SetOwn c.args.id (shared_value_of c.args.value)))) c.self.view_is ∙ c.requires) c.self.invariant.1)

pub returns : goal.returns
returns c =
    let at = c.self.inside in
    let made = own_set at.book at.elements.entries at.models.entries at.timelines.entries c.self.invariant.1 c.args.id (shared_value_of c.args.value) c.change_own.new.elements.entries c.change_own.ensures in
    made ∙ ap (λ e. after_edit e (OnElements (SetOwn c.args.id (shared_value_of c.args.value)))) c.self.view_is

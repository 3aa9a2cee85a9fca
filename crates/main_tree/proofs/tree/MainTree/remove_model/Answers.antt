use Rattle.std.proofs.Common.{◌≡◌, None, is_some, sym, subst, ap, ◌∙◌}
use Rattle.tree_commit.specs.Trees.{has_model}
use Rattle.tree_commit.specs.Edits.{OnModels, RemoveModel, edit_refusal}
use Rattle.tree_commit.specs.Tables.{StandUnderOwnIds}
use Rattle.tree_commit.proofs.TableLemmas.{found_model}
use Rattle.main_tree.specs.EditedTrees.{after_edit, edited_tables}
use Rattle.main_tree.proofs.TableEdits.{own_ids-remove_entry}
use Rattle.main_tree.proofs.MadeLemmas.{goes_after, model_removed}
use Rattle.main_tree.proofs.tree.MainTree.remove_model.Goals as goal

pub invariant_of-self : goal.invariant_of-self
invariant_of-self c =
    let at = c.self.inside in
    let allowed : edit_refusal at.book (OnModels (RemoveModel c.args.id)) ≡ None = ap (λ e. edit_refusal e.book (OnModels (RemoveModel c.args.id))) c.self.view_is ∙ c.requires in
    let made = (λ i. edited_tables at.book at.elements.entries (c.shift_remove.ensures.entries i) at.timelines.entries)
    ∙ model_removed at.book at.elements.entries at.models.entries at.timelines.entries c.self.invariant.1 c.self.invariant.0 c.args.id in (
      subst StandUnderOwnIds (sym c.shift_remove.ensures.entries) (own_ids-remove_entry c.args.id at.models.entries c.self.invariant.0),
      goes_after (edited_tables at.book at.elements.entries at.models.entries at.timelines.entries) _ (OnModels (RemoveModel c.args.id)) made allowed c.self.invariant.1,
    )

pub returns-clause-made : goal.returns-clause-made
returns-clause-made c =
    let at = c.self.inside in
    (λ i. edited_tables at.book at.elements.entries (c.shift_remove.ensures.entries i) at.timelines.entries)
    ∙ model_removed at.book at.elements.entries at.models.entries at.timelines.entries c.self.invariant.1 c.self.invariant.0 c.args.id
    ∙ ap (λ e. after_edit e (OnModels (RemoveModel c.args.id))) c.self.view_is

pub returns-clause-found : goal.returns-clause-found
returns-clause-found c =
    c.is_some.ensures
    ∙ ap is_some c.shift_remove.ensures.value
    ∙ found_model c.args.id c.self.inside.models.entries c.self.invariant.0
    ∙ ap (λ e. has_model e.tree c.args.id) c.self.view_is

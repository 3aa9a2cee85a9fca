use Rattle.std.proofs.Common.{◌≡◌, None, nat_eq, ap, ◌∙◌, arith}
use Rattle.indexmap.specs.IndexMap.{insert_entry}
use Rattle.keyframe_model.specs.Models.{Spec}
use Rattle.tree_commit.specs.Edits.{edit_refusal}
use Rattle.tree_commit.specs.Views.{change_of}
use Rattle.tree_commit.proofs.BookLemmas.{from_ok}
use Rattle.main_tree.specs.EditedTrees.{after_edit, edited_tables}
use Rattle.main_tree.proofs.MadeLemmas.{goes_after, model_added, own_ids_with}
use Rattle.main_tree.proofs.tree.MainTree.add_model.Goals as goal

pub invariant_of-self-2 : goal.invariant_of-self-2
invariant_of-self-2 c =
    let at = c.self.inside in
    let allowed : edit_refusal at.book (change_of c.args.edit.now) ≡ None =
    ap (λ e. edit_refusal e.book (change_of c.args.edit.now)) c.self.view_is ∙ c.requires.allowed in
    let spec = c.args.spec.now in
    let model = c.in_ok-spec.spec in
    let same : model.value ≡ spec.value = c.in_ok-spec.ensures.cases in
    let id_is : c.id.result ≡ spec.value.id = c.id.ensures.value ∙ ap (λ (it : Spec). it.id) (c.deref.ensures ∙ same) in
    let inserted : c.insert.new.self.entries ≡ insert_entry nat_eq at.models.entries spec.value.id model =
    from_ok c.insert.result (c.insert.ensures.succeeds (omega (arith, c.in_ok-reserve.ensures.ok))) c.insert.ensures.entries
    ∙ (λ i. insert_entry nat_eq (c.in_ok-reserve.ensures.entries i) (id_is i) model) in
    let made = model_added at.book at.elements.entries at.models.entries at.timelines.entries c.self.invariant.1 c.self.invariant.0 spec model (change_of c.args.edit.now) c.note.new.self c.insert.new.self.entries c.requires.is_this allowed same c.in_ok-note.ensures.noted inserted in
    let own = own_ids_with at.book at.elements.entries at.models.entries at.timelines.entries c.self.invariant.1 c.self.invariant.0 spec model (change_of c.args.edit.now) c.insert.new.self.entries c.requires.is_this allowed same inserted in
    (own, goes_after (edited_tables at.book at.elements.entries at.models.entries at.timelines.entries) _ (change_of c.args.edit.now) made allowed c.self.invariant.1)

pub returns-clause-made : goal.returns-clause-made
returns-clause-made c =
    let at = c.self.inside in
    let allowed : edit_refusal at.book (change_of c.args.edit.now) ≡ None =
    ap (λ e. edit_refusal e.book (change_of c.args.edit.now)) c.self.view_is ∙ c.requires.allowed in
    let spec = c.args.spec.now in
    let model = c.in_ok-spec.spec in
    let same : model.value ≡ spec.value = c.in_ok-spec.ensures.cases in
    let id_is : c.id.result ≡ spec.value.id = c.id.ensures.value ∙ ap (λ (it : Spec). it.id) (c.deref.ensures ∙ same) in
    let inserted : c.insert.new.self.entries ≡ insert_entry nat_eq at.models.entries spec.value.id model =
    from_ok c.insert.result (c.insert.ensures.succeeds (omega (arith, c.in_ok-reserve.ensures.ok))) c.insert.ensures.entries
    ∙ (λ i. insert_entry nat_eq (c.in_ok-reserve.ensures.entries i) (id_is i) model) in
    let made = model_added at.book at.elements.entries at.models.entries at.timelines.entries c.self.invariant.1 c.self.invariant.0 spec model (change_of c.args.edit.now) c.note.new.self c.insert.new.self.entries c.requires.is_this allowed same c.in_ok-note.ensures.noted inserted in
    made ∙ ap (λ e. after_edit e (change_of c.args.edit.now)) c.self.view_is

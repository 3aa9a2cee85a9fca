use Rattle.std.proofs.Common.{◌≡◌, None, nat_eq, ap, ◌∙◌, arith}
use Rattle.indexmap.specs.IndexMap.{insert_entry}
use Rattle.tree_commit.specs.Edits.{edit_refusal}
use Rattle.tree_commit.specs.Views.{change_of, look_of}
use Rattle.tree_commit.proofs.BookLemmas.{from_ok}
use Rattle.main_tree.specs.EditedTrees.{after_edit, edited_tables}
use Rattle.main_tree.proofs.MadeLemmas.{goes_after, element_added}
use Rattle.main_tree.proofs.tree.MainTree.add_element.Goals as goal

pub invariant_of-self-2 : goal.invariant_of-self-2
invariant_of-self-2 c =
    let at = c.self.inside in
    let allowed : edit_refusal at.book (change_of c.args.edit.now) ≡ None =
    ap (λ e. edit_refusal e.book (change_of c.args.edit.now)) c.self.view_is ∙ c.requires.allowed in
    let inserted = from_ok c.insert.result (c.insert.ensures.succeeds (omega (arith, c.in_ok-reserve.ensures.ok))) c.insert.ensures.entries
    ∙ ap (λ es. insert_entry nat_eq es c.args.id c.in_ok-base.base) c.in_ok-reserve.ensures.entries in
    let made = element_added at.book at.elements.entries at.models.entries at.timelines.entries c.self.invariant.1 c.args.id (look_of c.args.base.now) c.in_ok-base.base (change_of c.args.edit.now) c.note.new.self c.insert.new.self.entries c.requires.is_this allowed c.in_ok-base.ensures.cases c.in_ok-note.ensures.noted inserted in
    (c.self.invariant.0, goes_after (edited_tables at.book at.elements.entries at.models.entries at.timelines.entries) _ (change_of c.args.edit.now) made allowed c.self.invariant.1)

pub returns-clause-made : goal.returns-clause-made
returns-clause-made c =
    let at = c.self.inside in
    let allowed : edit_refusal at.book (change_of c.args.edit.now) ≡ None =
    ap (λ e. edit_refusal e.book (change_of c.args.edit.now)) c.self.view_is ∙ c.requires.allowed in
    let inserted = from_ok c.insert.result (c.insert.ensures.succeeds (omega (arith, c.in_ok-reserve.ensures.ok))) c.insert.ensures.entries
    ∙ ap (λ es. insert_entry nat_eq es c.args.id c.in_ok-base.base) c.in_ok-reserve.ensures.entries in
    let made = element_added at.book at.elements.entries at.models.entries at.timelines.entries c.self.invariant.1 c.args.id (look_of c.args.base.now) c.in_ok-base.base (change_of c.args.edit.now) c.note.new.self c.insert.new.self.entries c.requires.is_this allowed c.in_ok-base.ensures.cases c.in_ok-note.ensures.noted inserted in
    made ∙ ap (λ e. after_edit e (change_of c.args.edit.now)) c.self.view_is

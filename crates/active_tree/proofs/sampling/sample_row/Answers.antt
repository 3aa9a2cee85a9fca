use Rattle.std.proofs.Common.{◌≡◌, Some, ◌∙◌, ap, subst, refl}
use Rattle.std.specs.Prelude.{slice_get}
use Rattle.run_rules.specs.Frames.{shown_with}
use Rattle.tree_commit.specs.Trees.{Committed, Element}
use Rattle.tree_commit.specs.Views.{look_of}
use Rattle.active_tree.specs.ElementModels.{listed_for}
use Rattle.active_tree.specs.Samples.{animated_by, counts_of}
use Rattle.active_tree.proofs.CountLemmas.{animated-counts}
use Rattle.active_tree.proofs.RowLemmas.{row-shown}
use Rattle.active_tree.proofs.sampling.sample_row.Goals as goal

pub returns-clause-row : goal.returns-clause-row
returns-clause-row g c =
    let tree = c.args.sampled.now.tree in
    let starts = g.S.StartTable.starts c.args.starts.now in
    let element : Element = record { id = c.element_at-element.result.0; look = look_of c.element_at-element.result.1.now } in
    let there = subst (λ (t : Committed). slice_get t.tree.elements c.args.index ≡ Some element) (c.deref.ensures ∙ c.commit.ensures) c.element_at-element.ensures in
    let list = listed_for element.id c.args.models.now in
    let animated = animated_by tree starts c.args.time list in
    row-shown tree starts c.args.time c.args.index element animated (look_of c.animate.new.shown) there
    (λ property. animated-counts tree starts c.args.time element.id property list (counts_of tree starts c.args.time property list) (c.requires.lists element.id) refl)
    (c.in_ok-animate.ensures.shown ∙ ap (shown_with animated) c.in_ok-shown.ensures.cases)

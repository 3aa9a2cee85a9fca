use Rattle.std.proofs.Common.{ap, sym, ◌∙◌, refl, Option, option_map}
use Rattle.tree_commit.specs.declared.edits.group_shape.GroupShape.{GroupShape}
use Rattle.tree_commit.specs.Edits.{is_mixed}
use Rattle.tree_commit.specs.Books.{group_of}
use Rattle.tree_commit.proofs.BookLemmas.{found-lookup}
use Rattle.tree_commit.proofs.edits.edit_book.EditBook.is_mixed.Goals as goal

pub returns-in-None : goal.returns-in-None
returns-in-None c =
    let mixed = is_mixed c.args.element c.args.timeline c.args.start c.args.property in
    rw (← c.self.view_is)
    (ap (λ (found : Option GroupShape). mixed (option_map (λ shape. group_of (c.args.group, shape)) found)) c.in-None.ensures.value
    ∙ sym (found-lookup mixed (λ k j shape. refl) c.args.group c.self.inside.groups.entries))

pub returns-in-Some : goal.returns-in-Some
returns-in-Some c =
    let mixed = is_mixed c.args.element c.args.timeline c.args.start c.args.property in
    rw (← c.self.view_is)
    (c.is_mixed.ensures c.args.group
    ∙ ap (λ (found : Option GroupShape). mixed (option_map (λ shape. group_of (c.args.group, shape)) found)) c.in-Some.ensures.value
    ∙ sym (found-lookup mixed (λ k j shape. refl) c.args.group c.self.inside.groups.entries))

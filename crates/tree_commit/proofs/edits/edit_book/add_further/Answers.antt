use Rattle.std.proofs.Common.{◌≡◌, ◌∙◌, ap, sym, Some, nat_eq}
use Rattle.std.specs.Map.{lookup}
use Rattle.std.specs.Option.{option_copied_mut}
use Rattle.tree_commit.specs.Books.{groups_from}
use Rattle.tree_commit.proofs.BookLemmas.{with_member-further, groups_from-same, on_err}
use Rattle.tree_commit.proofs.edits.edit_book.add_further.Goals as goal

pub returns-clause-ok : goal.returns-clause-ok
returns-clause-ok c =
    let found : lookup (nat_eq c.group.result) c.args.groups.now.entries ≡ Some c.unwrap-shape.result.now =
    sym c.get_mut.ensures.value ∙ ap option_copied_mut c.unwrap-shape.ensures in
    λ commits. ap groups_from (c.get_mut.follows.holds _).0
    ∙ rw c.group.ensures
    (with_member-further commits c.args.spec.now c.unwrap-shape.result.now c.add_property.new.self c.args.groups.now.entries
    (rw c.property.ensures at c.in_ok-add_property.ensures.ok)
    (rw c.group.ensures at found))

pub returns-in_err-add_property-clause-err : goal.returns-in_err-add_property-clause-err
returns-in_err-add_property-clause-err c =
    let found : lookup (nat_eq c.group.result) c.args.groups.now.entries ≡ Some c.unwrap-shape.result.now =
    sym c.get_mut.ensures.value ∙ ap option_copied_mut c.unwrap-shape.ensures in
    on_err c.from_residual.result
    (ap groups_from (c.get_mut.follows.holds _).0
    ∙ groups_from-same c.group.result c.unwrap-shape.result.now c.add_property.new.self c.args.groups.now.entries
    c.in_err-add_property.ensures.err found)

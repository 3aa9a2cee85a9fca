use Rattle.std.proofs.Common.{◌≡◌, true, ◌∙◌}
use Rattle.anim_names.specs.declared.lane.Tree.TheVariants.{Pending, Active}
use Rattle.element_anims.specs.Elements.{is_known, is_present}
use Rattle.element_anims.proofs.KnownLemmas.{known-present}
use Rattle.tree_commit.specs.Trees.{has_element}
use Rattle.tree_commit.specs.Views.{look_of}
use Rattle.host_tables.proofs.ElementLemmas.{found-listed, set-next}
use Rattle.host_tables.proofs.elements.promote.Goals as goal

pub set_present-requires : goal.set_present-requires
set_present-requires c = λ there unknown.
    let element = c.element_at-element.result.0 in
    let listed : has_element c.args.commit.now.tree element ≡ true =
    found-listed c.args.commit.now.tree.elements c.loop-index.index (record { id = element; look = look_of c.element_at-element.result.1.now }) c.element_at-element.ensures in
    let present : is_present c.loop-index.table Pending element ≡ true = c.loop-index.invariant.presence Pending element ∙ c.requires.known element listed in
    let known : is_known c.loop-index.table element ≡ true = known-present c.loop-index.table element Pending present in
    absurd cc

pub loop-index-preserved : goal.loop-index-preserved
loop-index-preserved c =
    set-next Active c.args.commit.now.tree.elements c.loop-index.index (record { id = c.element_at-element.result.0; look = look_of c.element_at-element.result.1.now }) true
    c.args.table.now c.loop-index.table c.set_present.new.self c.element_at-element.ensures c.set_present.ensures.set c.loop-index.invariant

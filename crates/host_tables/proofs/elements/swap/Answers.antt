use Rattle.std.proofs.Common.{◌∙◌}
use Rattle.anim_names.specs.declared.lane.Tree.TheVariants.{Active, Pending}
use Rattle.element_anims.specs.Elements.{is_present}
use Rattle.tree_commit.specs.Trees.{has_element}
use Rattle.host_tables.proofs.ElementLemmas.{swapped-active, swapped-pending}
use Rattle.host_tables.proofs.elements.swap.Goals as goal

pub promote-requires : goal.promote-requires
promote-requires c = record {
  known = λ e there. c.dismiss.ensures.presence Pending e ∙ c.requires.pending e ∙ there;
}

pub returns-clause-active : goal.returns-clause-active
returns-clause-active c = λ e.
    c.dismiss-2.ensures.presence Active e
    ∙ c.promote.ensures.presence Active e
    ∙ swapped-active (has_element c.args.pending.now.tree e) (is_present c.dismiss.new.table Active e)
    (c.dismiss.ensures.presence Active e
    ∙ swapped-pending (has_element c.args.active.now.tree e) (is_present c.args.table.now Active e) (c.requires.active e))

pub returns-clause-pending : goal.returns-clause-pending
returns-clause-pending c = λ e.
    c.dismiss-2.ensures.presence Pending e
    ∙ swapped-pending (has_element c.args.pending.now.tree e) (is_present c.promote.new.table Pending e)
    (c.promote.ensures.presence Pending e ∙ c.dismiss.ensures.presence Pending e ∙ c.requires.pending e)

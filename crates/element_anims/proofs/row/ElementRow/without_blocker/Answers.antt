use Rattle.std.proofs.Common.{◌+◌, ◌∙◌, ap, arith, drop, refl, sym}
use Rattle.std.specs.List.{fold}
use Rattle.std.proofs.lemmas.List.{at_drop_more, drop_all}
use Rattle.anim_names.specs.declared.property.TheConstants.{PROPERTIES}
use Rattle.element_anims.specs.Rows.{Row, freed}
use Rattle.element_anims.proofs.row.ElementRow.without_blocker.Goals as goal

pub loop-index-init : goal.loop-index-init
loop-index-init c = refl

pub loop-index-preserved : goal.loop-index-preserved
loop-index-preserved c =
    let index = c.loop-index.index in
    ap (λ (row : Row). fold (freed c.args.group) row (drop (index + 1) PROPERTIES)) c.freed-row.ensures
    ∙ sym (at_drop_more (fold (freed c.args.group) c.loop-index.row) PROPERTIES index _ (omega arith))
    ∙ c.loop-index.invariant

pub returns : goal.returns
returns c =
    sym (ap (fold (freed c.args.group) c.loop-index.row) (drop_all c.loop-index.index PROPERTIES (omega arith)))
    ∙ c.loop-index.invariant

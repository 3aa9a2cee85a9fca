use Rattle.std.proofs.Common.{◌∙◌, w64}
use Rattle.std.proofs.lemmas.Int.{to_z-of_z}
use Rattle.script_fields.specs.Easings.{cubic_of}
use Rattle.script_fields.proofs.Kept.{ok_unless}
use Rattle.script_fields.proofs.easings.cubic_of.Goals as goal

pub returns : goal.returns
unfolding cubic_of
returns c =
    let x1 = to_z-of_z w64 c.args.x1 c.ranges.x1 in
    let y1 = to_z-of_z w64 c.args.y1 c.ranges.y1 in
    let x2 = to_z-of_z w64 c.args.x2 c.ranges.x2 in
    let y2 = to_z-of_z w64 c.args.y2 c.ranges.y2 in
    c.ok.ensures.value ∙ ok_unless c.cubic.result _ _ (rw (x1, y1, x2, y2) at c.cubic.ensures.refused) (rw (x1, y1, x2, y2) at c.cubic.ensures.parts)

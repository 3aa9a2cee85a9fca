use Rattle.std.proofs.Common.{◌∙◌, w32, w64}
use Rattle.std.proofs.lemmas.Int.{to_z-of_z}
use Rattle.script_fields.specs.Values.{timing_with}
use Rattle.script_fields.proofs.Kept.{ok_unless}
use Rattle.script_fields.proofs.values.timing_with.Goals as goal

pub returns : goal.returns
unfolding timing_with
returns c =
    let offset = to_z-of_z w64 c.args.offset c.ranges.offset in
    let rate = to_z-of_z w32 c.args.rate c.ranges.rate in
    c.ok.ensures.value ∙ ok_unless c.new.result _ _ (rw (offset, rate) at c.new.ensures.refused) (rw (offset, rate) at c.new.ensures.parts)

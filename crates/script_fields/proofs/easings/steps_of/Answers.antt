use Rattle.std.proofs.Common.{◌∙◌}
use Rattle.script_fields.specs.Easings.{steps_of}
use Rattle.script_fields.proofs.Kept.{ok_unless}
use Rattle.script_fields.proofs.easings.steps_of.Goals as goal

pub returns : goal.returns
unfolding steps_of
returns c = c.ok.ensures.value ∙ ok_unless _ _ _ c.steps.ensures.refused c.steps.ensures.parts

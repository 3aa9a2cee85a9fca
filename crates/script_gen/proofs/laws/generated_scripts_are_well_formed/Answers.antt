use Rattle.script_gen.proofs.WellFormed.{well_formed}
use Rattle.script_gen.proofs.laws.generated_scripts_are_well_formed.Goals as goal

pub returns : goal.returns
returns c = well_formed

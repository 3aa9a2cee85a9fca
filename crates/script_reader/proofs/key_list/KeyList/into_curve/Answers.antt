use Rattle.curve_keys.proofs.Keys.{IsCurve-lasts}
use Rattle.script_reader.proofs.key_list.KeyList.into_curve.Goals as goal

pub returns-in-Ok-clause-lasts : goal.returns-in-Ok-clause-lasts
returns-in-Ok-clause-lasts g c = IsCurve-lasts _ c.in-Ok.curve c.duration-duration.ensures.in_range

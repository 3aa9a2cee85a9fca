use Rattle.frame_script.proofs.Prefix.{same_front_same_refusal, earlier_lines_lead}
use Rattle.frame_script.proofs.laws.refusals_depend_on_earlier_lines.Goals as goal

pub returns : goal.returns
returns c = record { same = same_front_same_refusal; earlier = earlier_lines_lead }

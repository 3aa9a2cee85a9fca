use Rattle.frame_script.proofs.Leads.{spelled_or_refused, not_spelled_and_refused, one_script, one_refusal}
use Rattle.frame_script.proofs.laws.texts_spell_or_are_refused.Goals as goal

pub returns : goal.returns
returns c = record {
  either = spelled_or_refused;
  not_both = not_spelled_and_refused;
  one_script = one_script;
  one_refusal = one_refusal;
}

use Rattle.frame_script.specs.Reading.{refusal}
use Rattle.frame_script.proofs.Leads.{read_is_spelled, spelled_is_read, read_is_refused, refused_is_read}
use Rattle.frame_script.proofs.laws.reading_is_spelling.Goals as goal

pub returns : goal.returns
returns c = record {
  spelled = spelled_is_read;
  read = read_is_spelled;
  refused = refused_is_read;
  stopped = λ bytes number cause h. read_is_refused bytes (refusal number cause) h;
}

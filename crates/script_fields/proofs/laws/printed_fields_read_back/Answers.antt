use Rattle.script_fields.proofs.ReadBack.{id_back, opacity_back, time_back, key_time_back, start_back, property_back, direction_back, fill_back, policy_back, word_back}
use Rattle.script_fields.proofs.PrintBack.{easing_back, list_back}
use Rattle.script_fields.proofs.laws.printed_fields_read_back.Goals as goal

pub returns : goal.returns
returns c = record {
  id = id_back;
  opacity = opacity_back;
  time = time_back;
  key_time = key_time_back;
  start = start_back;
  property = property_back;
  direction = direction_back;
  fill = fill_back;
  policy = policy_back;
  word = word_back;
  easing = easing_back;
  list = list_back;
}

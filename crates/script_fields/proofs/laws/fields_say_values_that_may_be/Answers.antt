use Rattle.script_fields.proofs.Ranges.{id_in_range, opacity_in_range, time_in_range, key_time_in_range, start_in_range, timing_in_range, easing_in_range, list_in_range}
use Rattle.script_fields.proofs.laws.fields_say_values_that_may_be.Goals as goal

pub returns : goal.returns
returns c = record {
  id = id_in_range;
  opacity = opacity_in_range;
  time = time_in_range;
  key_time = key_time_in_range;
  start = start_in_range;
  timing = timing_in_range;
  easing = easing_in_range;
  list = list_in_range;
}

-- What the check opens to compute the reading of a script.
use Rattle.std.specs.Prelude.{ℕ}
use Rattle.tree_commit.specs.Edits.{book_after, edit_refusal, model_refusal}
use Rattle.script_fields.specs.Keywords.{letters_said}
use Rattle.script_fields.specs.Values.{id_said, opacity_said, time_said, key_time_said, start_said, count_said, timing_with, timing_of}
use Rattle.script_fields.specs.Easings.{steps_of, cubic_of, cubic_through}
use Rattle.script_fields.specs.Lists.{operation_with, operation_read, list_read}
use Rattle.frame_script.specs.Said.{new_element, new_own, new_timeline, drop_element_said, drop_model_said, edit_said, ids_said, names_said, span_said, course_said, numbers_said, key_count_said, curve_line_said, model_said, step_said, key_of, key_said, own_list, compositor_said}
use Rattle.frame_script.specs.States.{main_with, step_made, model_allowed, model_begun, keys_with, taken_curve, model_through, model_made, key_made, in_main, compositor_with, compositor_made, word_made, in_compositor, at_stage, after_line}
use Rattle.frame_script.specs.Reading.{reading_from, reading}

unfoldable pub whole_reading : ℕ
unfolding book_after edit_refusal model_refusal letters_said id_said opacity_said time_said key_time_said start_said count_said timing_with timing_of steps_of cubic_of cubic_through operation_with operation_read list_read new_element new_own new_timeline drop_element_said drop_model_said edit_said ids_said names_said span_said course_said numbers_said key_count_said curve_line_said model_said step_said key_of key_said own_list compositor_said main_with step_made model_allowed model_begun keys_with taken_curve model_through model_made key_made in_main compositor_with compositor_made word_made in_compositor at_stage after_line reading_from reading
whole_reading = 0

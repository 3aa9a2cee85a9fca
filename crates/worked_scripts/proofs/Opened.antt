-- What the check opens to compute the report of a script.
use Rattle.std.specs.Prelude.{ℕ}
use Rattle.micro_time.specs.Timings.{phase, curve_time, is_done}
use Rattle.easing_fixed.specs.Easings.{eased}
use Rattle.easing_fixed.specs.Steps.{step_value}
use Rattle.curve_keys.specs.Curves.{curve_value}
use Rattle.keyframe_model.specs.Models.{model_value}
use Rattle.tree_commit.specs.Edits.{tree_after, book_after, edit_refusal, model_refusal}
use Rattle.run_rules.specs.Frames.{animated_value, row_of, frame_at}
use Rattle.run_rules.specs.Marks.{is_ready, finish_marks, start_marks, marks_of_tick, marks_of_activation}
use Rattle.run_rules.specs.Runs.{tree_after_hearing, after_drain, main_step, compositor_step, after, closing_report}
use Rattle.run_rules.specs.Scripts.{are_allowed}

unfoldable pub whole_run : ℕ
unfolding phase curve_time is_done eased step_value curve_value model_value tree_after book_after edit_refusal model_refusal animated_value row_of frame_at is_ready finish_marks start_marks marks_of_tick marks_of_activation tree_after_hearing after_drain main_step compositor_step after closing_report are_allowed
whole_run = 0

-- What a whole word leaves: nothing of either lane, a frame for each tick, and a count for each drain and the closing one.
use Rattle.std.specs.Prelude.{◌≡◌, ◌+◌, Bool, true, false, List, [], length, map, count_by}
use Rattle.anim_names.specs.declared.lane.Lane.{Lane}
use Rattle.run_rules.specs.Scripts.{StepOfMain, EditStep, CommitStep, DrainStep, ScriptLists, ticks_of}
use Rattle.run_rules.specs.Runs.{beginning, after, report_of}

abbrev pub is_drain : StepOfMain → Bool
is_drain (EditStep change) = false
is_drain CommitStep = false
is_drain DrainStep = true

-- Both lanes have made all their steps. The frames are those of the ticks, in order, and there is one count more than
-- drains.
pub record IsComplete (script : ScriptLists) (word : List Lane) : Type 0 where
  pub main : (after (beginning script) word).main.left ≡ []
  pub compositor : (after (beginning script) word).compositor.left ≡ []
  pub frames : map (λ frame. frame.time) (report_of script word).frames ≡ ticks_of script.compositor
  pub counts : length (report_of script word).heard ≡ count_by is_drain script.main + 1

-- What one step of a run adds.
use Rattle.std.specs.Prelude.{List, [], length, drop, Option, Some, None}
use Rattle.anim_names.specs.declared.lane.Lane.{Lane}
use Rattle.run_rules.specs.declared.compositor_step.CompositorStep.{CompositorStep}
use Rattle.run_rules.specs.declared.compositor_step.CompositorStep.TheVariants.{Pull, Activate, Tick}
use Rattle.run_rules.specs.declared.mark.Mark.{Mark}
use Rattle.tree_commit.specs.Trees.{Committed}
use Rattle.run_rules.specs.Marks.{marks_of_tick, marks_of_activation}
use Rattle.run_rules.specs.Runs.{CompositorLane, Lanes, after_letter}

-- the marks that an activation makes, where a commit is pending
abbrev pub marks_of_pending : Option Committed → CompositorLane → List Mark
marks_of_pending None lane = []
marks_of_pending (Some pending) lane = marks_of_activation lane.active.tree pending lane.marks

-- the marks that a step of the compositor makes
abbrev pub marks_of_step : CompositorStep → CompositorLane → List Mark
marks_of_step Pull lane = []
marks_of_step Activate lane = marks_of_pending lane.pending lane
marks_of_step (Tick time) lane = marks_of_tick lane.active.tree lane.pending lane.marks time

-- the marks that the step of a letter makes
abbrev pub new_marks : Lanes → Lane → List Mark
new_marks lanes letter = drop (length lanes.compositor.marks) (after_letter lanes letter).compositor.marks

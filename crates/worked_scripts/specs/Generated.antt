-- The smallest script of the generator: an element fades and moves in steps, and the ticks begin before any commit.
use Rattle.std.specs.Prelude.{pos, List, [], ◌∷◌, codes}
use Rattle.anim_names.specs.declared.event.AnimEvent.TheVariants.{Started}
use Rattle.anim_names.specs.declared.version.Version.TheVariants.{One}
use Rattle.micro_time.specs.declared.direction.Direction.TheVariants.{Reverse}
use Rattle.micro_time.specs.declared.fill.Fill.TheVariants.{Both}
use Rattle.easing_fixed.specs.declared.easing.Easing.TheVariants.{Linear, Steps}
use Rattle.easing_fixed.specs.declared.position.StepPosition.TheVariants.{JumpEnd}
use Rattle.easing_fixed.specs.Steps.{step_parts}
use Rattle.transform_ops.specs.declared.op.TransformOp.{TransformOp}
use Rattle.curve_keys.specs.Curves.{Keyframes}
use Rattle.keyframe_model.specs.Models.{OpacityCurve, TransformCurve}
use Rattle.run_rules.specs.declared.compositor_step.CompositorStep.TheVariants.{Pull, Activate, Tick}
use Rattle.run_rules.specs.Scripts.{ScriptLists, CommitStep, DrainStep}
use Rattle.run_rules.specs.Runs.{ReportLists}
use Rattle.worked_scripts.specs.declared.TheConstants.{FADED_BACK}
use Rattle.worked_scripts.specs.Pieces.{letters, timeline_1, model, runs, key, linear, moved, frame, row, element_at}

-- in four steps from one place to another
abbrev pub stepping : Keyframes (List TransformOp)
stepping = record {
  keys = record (key 0 (moved 0)) { easing = Steps (step_parts 4 JumpEnd) } ∷ key 200000 (moved 1000) ∷ [];
  easing = Linear;
}

abbrev pub script : ScriptLists
script = record {
  version = One;
  main =
      timeline_1
      ∷ element_at 1 1000000 (moved 0)
      ∷ model 1 1 (record (runs 101000 2000 Both) { direction = Reverse }) (OpacityCurve (linear 101000 1000000 0))
      ∷ model 2 1 (runs 200000 1000 Both) (TransformCurve stepping)
      ∷ CommitStep
      ∷ DrainStep
      ∷ CommitStep
      ∷ DrainStep
      ∷ [];
  compositor = Tick 0 ∷ Pull ∷ Activate ∷ Tick 16667 ∷ Tick 33334 ∷ Tick 50001 ∷ [];
  word = letters (codes "MMMCMMMCMMCCCC");
}

abbrev pub report : ReportLists
report = record {
  word = script.word;
  frames =
      frame 0 0 []
      ∷ frame 16667 1 (row 1 0 (moved 0) ∷ [])
      ∷ frame 33334 1 (row 1 FADED_BACK (moved 0) ∷ [])
      ∷ frame 50001 1 (row 1 330039 (moved 0) ∷ [])
      ∷ [];
  events = Started 1 1 16667 (pos 16667) ∷ Started 2 1 16667 (pos 16667) ∷ [];
  heard = 0 ∷ 0 ∷ 2 ∷ [];
}

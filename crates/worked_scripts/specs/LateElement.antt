-- The element of a group comes one commit later than the group, which waits for it. Both models then start together.
use Rattle.std.specs.Prelude.{[], ◌∷◌, codes}
use Rattle.anim_names.specs.declared.event.AnimEvent.TheVariants.{Started}
use Rattle.anim_names.specs.declared.version.Version.TheVariants.{One}
use Rattle.micro_time.specs.declared.fill.Fill.TheVariants.{Neither}
use Rattle.keyframe_model.specs.Models.{OpacityCurve, TransformCurve}
use Rattle.run_rules.specs.declared.compositor_step.CompositorStep.TheVariants.{Pull, Activate, Tick}
use Rattle.run_rules.specs.Scripts.{ScriptLists, CommitStep}
use Rattle.run_rules.specs.Runs.{ReportLists}
use Rattle.worked_scripts.specs.declared.TheConstants.{START_OF_THE_LATE}
use Rattle.worked_scripts.specs.Pieces.{letters, timeline_1, element, model, runs, linear, moved, frame, row}

abbrev pub script : ScriptLists
script = record {
  version = One;
  main =
      timeline_1
      ∷ model 1 1 (runs 1000 1000 Neither) (OpacityCurve (linear 1000 250000 1000000))
      ∷ model 2 1 (runs 1000 1000 Neither) (TransformCurve (linear 1000 (moved 5) (moved 9)))
      ∷ CommitStep
      ∷ element 1 1000000
      ∷ CommitStep
      ∷ [];
  compositor = Pull ∷ Activate ∷ Tick 1000 ∷ Pull ∷ Activate ∷ Tick 2000 ∷ [];
  word = letters (codes "MMMMCCCMMCCC");
}

abbrev pub report : ReportLists
report = record {
  word = script.word;
  frames = frame 1000 1 [] ∷ frame 2000 2 (row 1 250000 (moved 5) ∷ []) ∷ [];
  events = Started 1 1 2000 START_OF_THE_LATE ∷ Started 2 1 2000 START_OF_THE_LATE ∷ [];
  heard = 2 ∷ [];
}

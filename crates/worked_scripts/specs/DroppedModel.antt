-- The pending commit has dropped a model: the model starts, and is aborted when that commit becomes active.
use Rattle.std.specs.Prelude.{pos, [], ◌∷◌, codes}
use Rattle.anim_names.specs.declared.event.AnimEvent.TheVariants.{Started, Aborted}
use Rattle.anim_names.specs.declared.version.Version.TheVariants.{One}
use Rattle.micro_time.specs.declared.fill.Fill.TheVariants.{Neither}
use Rattle.keyframe_model.specs.Models.{OpacityCurve}
use Rattle.run_rules.specs.declared.compositor_step.CompositorStep.TheVariants.{Pull, Activate, Tick}
use Rattle.run_rules.specs.Scripts.{ScriptLists, CommitStep}
use Rattle.run_rules.specs.Runs.{ReportLists}
use Rattle.worked_scripts.specs.declared.TheConstants.{ABORTING_COMMIT}
use Rattle.worked_scripts.specs.Pieces.{letters, timeline_1, element, model, runs, linear, frame, row, model_gone}

abbrev pub script : ScriptLists
script = record {
  version = One;
  main =
      timeline_1
      ∷ element 1 1000000
      ∷ model 1 1 (runs 1000000 1000 Neither) (OpacityCurve (linear 1000000 0 1000000))
      ∷ CommitStep
      ∷ model_gone 1
      ∷ CommitStep
      ∷ [];
  compositor = Pull ∷ Activate ∷ Pull ∷ Tick 1000 ∷ Activate ∷ Tick 2000 ∷ [];
  word = letters (codes "MMMMCCMMCCCC");
}

abbrev pub report : ReportLists
report = record {
  word = script.word;
  frames = frame 1000 1 (row 1 0 [] ∷ []) ∷ frame 2000 2 (row 1 1000000 [] ∷ []) ∷ [];
  events = Started 1 1 1000 (pos 1000) ∷ Aborted 1 ABORTING_COMMIT ∷ [];
  heard = 2 ∷ [];
}

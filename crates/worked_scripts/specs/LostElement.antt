-- The pending commit keeps a model and has lost its element: nothing starts.
use Rattle.std.specs.Prelude.{[], ◌∷◌, codes}
use Rattle.anim_names.specs.declared.version.Version.TheVariants.{One}
use Rattle.micro_time.specs.declared.fill.Fill.TheVariants.{Neither}
use Rattle.keyframe_model.specs.Models.{OpacityCurve}
use Rattle.run_rules.specs.declared.compositor_step.CompositorStep.TheVariants.{Pull, Activate, Tick}
use Rattle.run_rules.specs.Scripts.{ScriptLists, CommitStep}
use Rattle.run_rules.specs.Runs.{ReportLists}
use Rattle.worked_scripts.specs.Pieces.{letters, timeline_1, element, model, runs, linear, frame, row, element_gone}

abbrev pub script : ScriptLists
script = record {
  version = One;
  main =
      timeline_1
      ∷ element 1 1000000
      ∷ model 1 1 (runs 1000000 1000 Neither) (OpacityCurve (linear 1000000 0 1000000))
      ∷ CommitStep
      ∷ element_gone 1
      ∷ CommitStep
      ∷ [];
  compositor = Pull ∷ Activate ∷ Pull ∷ Tick 1000 ∷ Activate ∷ Tick 2000 ∷ [];
  word = letters (codes "MMMMCCMMCCCC");
}

abbrev pub report : ReportLists
report = record {
  word = script.word;
  frames = frame 1000 1 (row 1 1000000 [] ∷ []) ∷ frame 2000 2 [] ∷ [];
  events = [];
  heard = 0 ∷ [];
}

-- Two commits before one pull: the first is never seen, and its model has no event.
use Rattle.std.specs.Prelude.{[], ◌∷◌, codes}
use Rattle.anim_names.specs.declared.version.Version.TheVariants.{One}
use Rattle.micro_time.specs.declared.fill.Fill.TheVariants.{Neither}
use Rattle.keyframe_model.specs.Models.{OpacityCurve}
use Rattle.run_rules.specs.declared.compositor_step.CompositorStep.TheVariants.{Pull, Activate, Tick}
use Rattle.run_rules.specs.Scripts.{ScriptLists, CommitStep}
use Rattle.run_rules.specs.Runs.{ReportLists}
use Rattle.worked_scripts.specs.Pieces.{letters, timeline_1, element, model, runs, linear, frame, row, model_gone}

abbrev pub script : ScriptLists
script = record {
  version = One;
  main =
      timeline_1
      ∷ element 1 1000000
      ∷ model 1 1 (runs 1000000 1000 Neither) (OpacityCurve (linear 1000000 0 1000000))
      ∷ CommitStep
      ∷ model_gone 1
      ∷ element 2 300000
      ∷ CommitStep
      ∷ [];
  compositor = Pull ∷ Activate ∷ Tick 5 ∷ [];
  word = letters (codes "MMMMMMMCCC");
}

abbrev pub report : ReportLists
report = record {
  word = script.word;
  frames = frame 5 2 (row 1 1000000 [] ∷ row 2 300000 [] ∷ []) ∷ [];
  events = [];
  heard = 0 ∷ [];
}

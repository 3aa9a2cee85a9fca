-- A finished model that fills forwards shows again once the model that started after it gives no value any more. When
-- main has dropped both, the element shows its own opacity, and neither is aborted.
use Rattle.std.specs.Prelude.{pos, [], ◌∷◌, codes}
use Rattle.anim_names.specs.declared.event.AnimEvent.TheVariants.{Started, Finished}
use Rattle.anim_names.specs.declared.version.Version.TheVariants.{One}
use Rattle.micro_time.specs.declared.fill.Fill.TheVariants.{Neither, Forwards}
use Rattle.keyframe_model.specs.Models.{OpacityCurve}
use Rattle.run_rules.specs.declared.compositor_step.CompositorStep.TheVariants.{Pull, Activate, Tick}
use Rattle.run_rules.specs.Scripts.{ScriptLists, CommitStep, DrainStep}
use Rattle.run_rules.specs.Runs.{ReportLists}
use Rattle.worked_scripts.specs.Pieces.{letters, timeline_1, element, model, runs, linear, frame, row}

abbrev pub script : ScriptLists
script = record {
  version = One;
  main =
      timeline_1
      ∷ element 1 1000000
      ∷ model 1 1 (runs 1000 1000 Forwards) (OpacityCurve (linear 1000 0 400000))
      ∷ model 2 2 (runs 1000 1000 Neither) (OpacityCurve (linear 1000 500000 600000))
      ∷ CommitStep
      ∷ DrainStep
      ∷ CommitStep
      ∷ [];
  compositor = Pull ∷ Activate ∷ Tick 0 ∷ Tick 1000 ∷ Tick 1500 ∷ Tick 2000 ∷ Pull ∷ Activate ∷ Tick 3000 ∷ [];
  word = letters (codes "MMMMMCCCCCCMMCCC");
}

abbrev pub report : ReportLists
report = record {
  word = script.word;
  frames =
      frame 0 1 (row 1 0 [] ∷ [])
      ∷ frame 1000 1 (row 1 500000 [] ∷ [])
      ∷ frame 1500 1 (row 1 550000 [] ∷ [])
      ∷ frame 2000 1 (row 1 400000 [] ∷ [])
      ∷ frame 3000 2 (row 1 1000000 [] ∷ [])
      ∷ [];
  events = Started 1 1 0 (pos 0) ∷ Finished 1 1000 ∷ Started 2 2 1000 (pos 1000) ∷ Finished 2 2000 ∷ [];
  heard = 4 ∷ 4 ∷ [];
}

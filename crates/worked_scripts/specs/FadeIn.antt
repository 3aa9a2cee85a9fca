-- An element fades in: one model of one element, and three ticks.
use Rattle.std.specs.Prelude.{pos, [], ◌∷◌, codes}
use Rattle.anim_names.specs.declared.event.AnimEvent.TheVariants.{Started}
use Rattle.anim_names.specs.declared.version.Version.TheVariants.{One}
use Rattle.micro_time.specs.declared.fill.Fill.TheVariants.{Neither}
use Rattle.keyframe_model.specs.Models.{OpacityCurve}
use Rattle.run_rules.specs.declared.compositor_step.CompositorStep.TheVariants.{Pull, Activate, Tick}
use Rattle.run_rules.specs.Scripts.{ScriptLists, CommitStep}
use Rattle.run_rules.specs.Runs.{ReportLists}
use Rattle.worked_scripts.specs.declared.TheConstants.{A_THIRD_IN}
use Rattle.worked_scripts.specs.Pieces.{letters, timeline_1, element, model, runs, linear, frame, row}

abbrev pub script : ScriptLists
script = record {
  version = One;
  main =
      timeline_1
      ∷ element 1 1000000
      ∷ model 1 1 (runs 1000000 1000 Neither) (OpacityCurve (linear 1000000 0 1000000))
      ∷ CommitStep
      ∷ [];
  compositor = Pull ∷ Activate ∷ Tick 16000 ∷ Tick 349333 ∷ Tick 516000 ∷ [];
  word = letters (codes "MMMMCCCCC");
}

abbrev pub report : ReportLists
report = record {
  word = script.word;
  frames =
      frame 16000 1 (row 1 0 [] ∷ [])
      ∷ frame 349333 1 (row 1 A_THIRD_IN [] ∷ [])
      ∷ frame 516000 1 (row 1 500000 [] ∷ [])
      ∷ [];
  events = Started 1 1 16000 (pos 16000) ∷ [];
  heard = 1 ∷ [];
}

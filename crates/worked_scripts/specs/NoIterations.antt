-- A model without iterations starts and finishes in two ticks of one time, and keeps its first value.
use Rattle.std.specs.Prelude.{pos, [], ◌∷◌, codes}
use Rattle.anim_names.specs.declared.event.AnimEvent.TheVariants.{Started, Finished}
use Rattle.anim_names.specs.declared.version.Version.TheVariants.{One}
use Rattle.micro_time.specs.declared.fill.Fill.TheVariants.{Forwards}
use Rattle.keyframe_model.specs.Models.{OpacityCurve}
use Rattle.run_rules.specs.declared.compositor_step.CompositorStep.TheVariants.{Pull, Activate, Tick}
use Rattle.run_rules.specs.Scripts.{ScriptLists, CommitStep}
use Rattle.run_rules.specs.Runs.{ReportLists}
use Rattle.worked_scripts.specs.Pieces.{letters, timeline_1, element, model, runs, linear, frame, row}

abbrev pub script : ScriptLists
script = record {
  version = One;
  main =
      timeline_1
      ∷ element 1 1000000
      ∷ model 1 1 (runs 1000000 0 Forwards) (OpacityCurve (linear 1000000 0 1000000))
      ∷ CommitStep
      ∷ [];
  compositor = Pull ∷ Activate ∷ Tick 0 ∷ Tick 0 ∷ [];
  word = letters (codes "MMMMCCCC");
}

abbrev pub report : ReportLists
report = record {
  word = script.word;
  frames = frame 0 1 (row 1 0 [] ∷ []) ∷ frame 0 1 (row 1 0 [] ∷ []) ∷ [];
  events = Started 1 1 0 (pos 0) ∷ Finished 1 0 ∷ [];
  heard = 2 ∷ [];
}

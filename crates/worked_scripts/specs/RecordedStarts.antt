-- A timeline that shows 0 at tick 1000, and a tick at 500. A model without a given start counts from -500. Two with a
-- given start are before their iterations: the one that fills backwards shows its first value, the other nothing.
use Rattle.std.specs.Prelude.{pos, neg_ℤ, [], ◌∷◌, Some, codes}
use Rattle.anim_names.specs.declared.event.AnimEvent.TheVariants.{Started}
use Rattle.anim_names.specs.declared.version.Version.TheVariants.{One}
use Rattle.micro_time.specs.declared.fill.Fill.TheVariants.{Neither, Forwards, Backwards}
use Rattle.keyframe_model.specs.Models.{PropertyCurve, OpacityCurve}
use Rattle.run_rules.specs.declared.compositor_step.CompositorStep.TheVariants.{Pull, Activate, Tick}
use Rattle.run_rules.specs.Scripts.{ScriptLists, CommitStep}
use Rattle.run_rules.specs.Runs.{ReportLists}
use Rattle.worked_scripts.specs.Pieces.{letters, element, model, model_of, added, runs, linear, frame, row, timeline}

abbrev pub fading : PropertyCurve
fading = OpacityCurve (linear 1000 300000 0)

abbrev pub script : ScriptLists
script = record {
  version = One;
  main =
      timeline 1 1000
      ∷ element 1 1000000
      ∷ element 2 1000000
      ∷ element 3 1000000
      ∷ model 1 1 (runs 1000 1000 Neither) (OpacityCurve (linear 1000 200000 0))
      ∷ added (record (model_of 2 2 2 (runs 1000 1000 Backwards) fading) { start = Some 5000 })
      ∷ added (record (model_of 3 3 3 (runs 1000 1000 Forwards) fading) { start = Some 5000 })
      ∷ CommitStep
      ∷ [];
  compositor = Pull ∷ Activate ∷ Tick 500 ∷ [];
  word = letters (codes "MMMMMMMMCCC");
}

abbrev pub report : ReportLists
report = record {
  word = script.word;
  frames = frame 500 1 (row 1 200000 [] ∷ row 2 300000 [] ∷ row 3 1000000 [] ∷ []) ∷ [];
  events = Started 1 1 500 (neg_ℤ (pos 500)) ∷ Started 2 2 500 (pos 5000) ∷ Started 3 3 500 (pos 5000) ∷ [];
  heard = 3 ∷ [];
}

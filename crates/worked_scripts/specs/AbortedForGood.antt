-- An element is removed under a running model and comes back. The model was aborted: it shows nothing, though it is in
-- the commit and fills both ways, and it never starts again.
use Rattle.std.specs.Prelude.{pos, [], ◌∷◌, codes}
use Rattle.anim_names.specs.declared.event.AnimEvent.TheVariants.{Started, Aborted}
use Rattle.anim_names.specs.declared.version.Version.TheVariants.{One}
use Rattle.anim_delegate.specs.declared.policy.Policy.TheVariants.{Manual}
use Rattle.micro_time.specs.declared.fill.Fill.TheVariants.{Both}
use Rattle.keyframe_model.specs.Models.{PropertyCurve, OpacityCurve}
use Rattle.run_rules.specs.declared.compositor_step.CompositorStep.TheVariants.{Pull, Activate, Tick}
use Rattle.run_rules.specs.Scripts.{ScriptLists, CommitStep}
use Rattle.run_rules.specs.Runs.{ReportLists}
use Rattle.worked_scripts.specs.Pieces.{letters, timeline_1, element, model_of, added, runs, linear, frame, row, element_gone}

abbrev pub rising : PropertyCurve
rising = OpacityCurve (linear 1000000 0 1000000)

abbrev pub script : ScriptLists
script = record {
  version = One;
  main =
      timeline_1
      ∷ element 1 800000
      ∷ added (record (model_of 1 1 1 (runs 1000000 1000 Both) rising) { policy = Manual })
      ∷ CommitStep
      ∷ element_gone 1
      ∷ CommitStep
      ∷ element 1 900000
      ∷ CommitStep
      ∷ [];
  compositor = Pull ∷ Activate ∷ Tick 0 ∷ Pull ∷ Activate ∷ Tick 1000 ∷ Pull ∷ Activate ∷ Tick 2000 ∷ [];
  word = letters (codes "MMMMCCCMMCCCMMCCC");
}

abbrev pub report : ReportLists
report = record {
  word = script.word;
  frames = frame 0 1 (row 1 0 [] ∷ []) ∷ frame 1000 2 [] ∷ frame 2000 3 (row 1 900000 [] ∷ []) ∷ [];
  events = Started 1 1 0 (pos 0) ∷ Aborted 1 2 ∷ [];
  heard = 2 ∷ [];
}

-- The pending commit has dropped a waiting model and its element too. The model starts all the same, since the pending
-- commit holds no model of the group, and is aborted when that commit becomes active. Then there is no element to draw.
use Rattle.std.specs.Prelude.{pos, [], ◌∷◌, codes}
use Rattle.anim_names.specs.declared.event.AnimEvent.TheVariants.{Started, Aborted}
use Rattle.anim_names.specs.declared.version.Version.TheVariants.{One}
use Rattle.micro_time.specs.declared.fill.Fill.TheVariants.{Neither}
use Rattle.keyframe_model.specs.Models.{OpacityCurve}
use Rattle.run_rules.specs.declared.compositor_step.CompositorStep.TheVariants.{Pull, Activate, Tick}
use Rattle.run_rules.specs.Scripts.{ScriptLists, CommitStep}
use Rattle.run_rules.specs.Runs.{ReportLists}
use Rattle.worked_scripts.specs.declared.TheConstants.{STARTED_WHILE_DROPPED}
use Rattle.worked_scripts.specs.Pieces.{letters, timeline_1, element, model, runs, linear, frame, row, element_gone, model_gone}

abbrev pub script : ScriptLists
script = record {
  version = One;
  main =
      timeline_1
      ∷ element 1 1000000
      ∷ model 1 1 (runs 1000000 1000 Neither) (OpacityCurve (linear 1000000 0 1000000))
      ∷ CommitStep
      ∷ model_gone 1
      ∷ element_gone 1
      ∷ CommitStep
      ∷ [];
  compositor = Pull ∷ Activate ∷ Pull ∷ Tick 1000 ∷ Activate ∷ Tick 2000 ∷ [];
  word = letters (codes "MMMMCCMMMCCCC");
}

abbrev pub report : ReportLists
report = record {
  word = script.word;
  frames = frame 1000 1 (row 1 0 [] ∷ []) ∷ frame 2000 2 [] ∷ [];
  events = Started 1 1 STARTED_WHILE_DROPPED (pos 1000) ∷ Aborted 1 2 ∷ [];
  heard = 2 ∷ [];
}

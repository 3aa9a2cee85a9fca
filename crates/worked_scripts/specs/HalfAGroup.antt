-- A model of a running group is dropped and aborted. The group goes on blocking its property, which a model of another
-- group waits for: a group blocks with what it started, ended or not, until it finishes.
use Rattle.std.specs.Prelude.{pos, [], ◌∷◌, codes}
use Rattle.anim_names.specs.declared.event.AnimEvent.TheVariants.{Started, Finished, Aborted}
use Rattle.anim_names.specs.declared.version.Version.TheVariants.{One}
use Rattle.micro_time.specs.declared.fill.Fill.TheVariants.{Neither}
use Rattle.keyframe_model.specs.Models.{OpacityCurve, TransformCurve}
use Rattle.run_rules.specs.declared.compositor_step.CompositorStep.TheVariants.{Pull, Activate, Tick}
use Rattle.run_rules.specs.Scripts.{ScriptLists, CommitStep}
use Rattle.run_rules.specs.Runs.{ReportLists}
use Rattle.worked_scripts.specs.declared.TheConstants.{BLOCKED_UNTIL}
use Rattle.worked_scripts.specs.Pieces.{letters, timeline_1, element, model, runs, linear, moved, frame, row, model_gone}

abbrev pub script : ScriptLists
script = record {
  version = One;
  main =
      timeline_1
      ∷ element 1 1000000
      ∷ model 1 1 (runs 1000 1000 Neither) (OpacityCurve (linear 1000 0 1000000))
      ∷ model 2 1 (runs 3000 1000 Neither) (TransformCurve (linear 3000 (moved 0) (moved 3000)))
      ∷ model 3 2 (runs 1000 1000 Neither) (OpacityCurve (linear 1000 500000 0))
      ∷ CommitStep
      ∷ model_gone 1
      ∷ CommitStep
      ∷ [];
  compositor = Pull ∷ Activate ∷ Tick 0 ∷ Pull ∷ Activate ∷ Tick 1000 ∷ Tick 3000 ∷ [];
  word = letters (codes "MMMMMMCCCMMCCCC");
}

abbrev pub report : ReportLists
report = record {
  word = script.word;
  frames =
      frame 0 1 (row 1 0 (moved 0) ∷ [])
      ∷ frame 1000 2 (row 1 1000000 (moved 999) ∷ [])
      ∷ frame 3000 2 (row 1 500000 [] ∷ [])
      ∷ [];
  events =
      Started 1 1 0 (pos 0)
      ∷ Started 2 1 0 (pos 0)
      ∷ Aborted 1 2
      ∷ Finished 2 3000
      ∷ Started 3 2 BLOCKED_UNTIL (pos 3000)
      ∷ [];
  heard = 5 ∷ [];
}

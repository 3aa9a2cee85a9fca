-- The models of one group stand on both sides of a model of another. Models start group by group, and finish in the
-- order of the commit.
use Rattle.std.specs.Prelude.{pos, [], ◌∷◌, codes}
use Rattle.anim_names.specs.declared.event.AnimEvent.TheVariants.{Started, Finished}
use Rattle.anim_names.specs.declared.version.Version.TheVariants.{One}
use Rattle.micro_time.specs.declared.fill.Fill.TheVariants.{Neither}
use Rattle.keyframe_model.specs.Models.{OpacityCurve, TransformCurve}
use Rattle.run_rules.specs.declared.compositor_step.CompositorStep.TheVariants.{Pull, Activate, Tick}
use Rattle.run_rules.specs.Scripts.{ScriptLists, CommitStep}
use Rattle.run_rules.specs.Runs.{ReportLists}
use Rattle.worked_scripts.specs.Pieces.{letters, timeline_1, element, model, model_of, added, runs, linear, moved, frame, row}

abbrev pub script : ScriptLists
script = record {
  version = One;
  main =
      timeline_1
      ∷ element 1 1000000
      ∷ element 2 1000000
      ∷ model 1 1 (runs 1000 1000 Neither) (OpacityCurve (linear 1000 0 1000000))
      ∷ added (model_of 2 2 2 (runs 1000 1000 Neither) (OpacityCurve (linear 1000 0 500000)))
      ∷ model 3 1 (runs 1000 1000 Neither) (TransformCurve (linear 1000 (moved 0) (moved 2000)))
      ∷ CommitStep
      ∷ [];
  compositor = Pull ∷ Activate ∷ Tick 0 ∷ Tick 1000 ∷ [];
  word = letters (codes "MMMMMMMCCCC");
}

abbrev pub report : ReportLists
report = record {
  word = script.word;
  frames =
      frame 0 1 (row 1 0 (moved 0) ∷ row 2 0 [] ∷ [])
      ∷ frame 1000 1 (row 1 1000000 [] ∷ row 2 1000000 [] ∷ [])
      ∷ [];
  events =
      Started 1 1 0 (pos 0)
      ∷ Started 3 1 0 (pos 0)
      ∷ Started 2 2 0 (pos 0)
      ∷ Finished 1 1000
      ∷ Finished 2 1000
      ∷ Finished 3 1000
      ∷ [];
  heard = 6 ∷ [];
}

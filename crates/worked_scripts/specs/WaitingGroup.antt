-- Two models of one group, of which one is done long before the other. A third model, of a property of the first, waits
-- for the whole group: it starts in the tick in which the group finishes.
use Rattle.std.specs.Prelude.{pos, [], ◌∷◌, codes}
use Rattle.anim_names.specs.declared.event.AnimEvent.TheVariants.{Started, Finished}
use Rattle.anim_names.specs.declared.version.Version.TheVariants.{One}
use Rattle.micro_time.specs.declared.fill.Fill.TheVariants.{Neither}
use Rattle.keyframe_model.specs.Models.{OpacityCurve, TransformCurve}
use Rattle.run_rules.specs.declared.compositor_step.CompositorStep.TheVariants.{Pull, Activate, Tick}
use Rattle.run_rules.specs.Scripts.{ScriptLists, CommitStep}
use Rattle.run_rules.specs.Runs.{ReportLists}
use Rattle.worked_scripts.specs.declared.TheConstants.{FREED_AT}
use Rattle.worked_scripts.specs.Pieces.{letters, timeline_1, element, model, runs, linear, moved, frame, row}

abbrev pub script : ScriptLists
script = record {
  version = One;
  main =
      timeline_1
      ∷ element 1 1000000
      ∷ model 1 1 (runs 1000 1000 Neither) (OpacityCurve (linear 1000 0 1000000))
      ∷ model 2 1 (runs 3000 1000 Neither) (TransformCurve (linear 3000 (moved 0) (moved 3000)))
      ∷ model 3 2 (runs 1000 1000 Neither) (OpacityCurve (linear 1000 500000 0))
      ∷ CommitStep
      ∷ [];
  compositor = Pull ∷ Activate ∷ Tick 0 ∷ Tick 1000 ∷ Tick 2000 ∷ Tick 3000 ∷ Tick 4000 ∷ [];
  word = letters (codes "MMMMMMCCCCCCC");
}

abbrev pub report : ReportLists
report = record {
  word = script.word;
  frames =
      frame 0 1 (row 1 0 (moved 0) ∷ [])
      ∷ frame 1000 1 (row 1 1000000 (moved 999) ∷ [])
      ∷ frame 2000 1 (row 1 1000000 (moved 1999) ∷ [])
      ∷ frame 3000 1 (row 1 500000 [] ∷ [])
      ∷ frame 4000 1 (row 1 1000000 [] ∷ [])
      ∷ [];
  events =
      Started 1 1 0 (pos 0)
      ∷ Started 2 1 0 (pos 0)
      ∷ Finished 1 FREED_AT
      ∷ Finished 2 FREED_AT
      ∷ Started 3 2 FREED_AT (pos 3000)
      ∷ Finished 3 4000
      ∷ [];
  heard = 6 ∷ [];
}

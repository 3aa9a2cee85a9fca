-- Three models finish and three are aborted, one of each policy, and main hears it all in one drain. The next commit
-- has the models that their policies keep, and of those the finished one fills.
use Rattle.std.specs.Prelude.{ℕ, pos, List, [], ◌∷◌, codes, map}
use Rattle.anim_names.specs.declared.event.AnimEvent.TheVariants.{Started, Finished, Aborted}
use Rattle.anim_names.specs.declared.version.Version.TheVariants.{One}
use Rattle.anim_delegate.specs.declared.policy.Policy.{Policy}
use Rattle.anim_delegate.specs.declared.policy.Policy.TheVariants.{Auto, FinishedOnly, Manual}
use Rattle.micro_time.specs.declared.fill.Fill.TheVariants.{Both}
use Rattle.keyframe_model.specs.Models.{PropertyCurve, OpacityCurve}
use Rattle.run_rules.specs.declared.compositor_step.CompositorStep.TheVariants.{Pull, Activate, Tick}
use Rattle.run_rules.specs.Scripts.{StepOfMain, ScriptLists, CommitStep, DrainStep}
use Rattle.run_rules.specs.Runs.{ReportLists, beginning, after}
use Rattle.worked_scripts.specs.declared.TheConstants.{SHOWN_BY_ITS_FILL, KEPT_AFTER_ITS_ABORT}
use Rattle.worked_scripts.specs.Pieces.{letters, timeline_1, element, model_of, added, runs, linear, frame, row, element_gone}

abbrev pub half_way : PropertyCurve
half_way = OpacityCurve (linear 1000 0 500000)

-- a model of the element of its own number, alone in its group
abbrev pub model_under : ℕ → Policy → StepOfMain
model_under id policy = added (record (model_of id id id (runs 1000 1000 Both) half_way) { policy = policy })

abbrev pub script : ScriptLists
script = record {
  version = One;
  main =
      timeline_1
      ∷ element 1 1000000
      ∷ element 2 1000000
      ∷ element 3 1000000
      ∷ element 4 1000000
      ∷ element 5 1000000
      ∷ element 6 1000000
      ∷ model_under 1 Auto
      ∷ model_under 2 FinishedOnly
      ∷ model_under 3 Manual
      ∷ model_under 4 Auto
      ∷ model_under 5 FinishedOnly
      ∷ model_under 6 Manual
      ∷ CommitStep
      ∷ element_gone 4
      ∷ element_gone 5
      ∷ element_gone 6
      ∷ CommitStep
      ∷ DrainStep
      ∷ CommitStep
      ∷ [];
  compositor = Pull ∷ Activate ∷ Tick 0 ∷ Pull ∷ Activate ∷ Tick 1000 ∷ Pull ∷ Activate ∷ Tick 2000 ∷ [];
  word = letters (codes "MMMMMMMMMMMMMMCCCMMMMCCCMMCCC");
}

-- the models in main's tree when both lanes have ended
abbrev pub models_left : List ℕ
models_left = map (λ model. model.id) (after (beginning script) script.word).main.tree.models

abbrev pub kept : List ℕ
kept = 3 ∷ KEPT_AFTER_ITS_ABORT ∷ 6 ∷ []

abbrev pub report : ReportLists
report = record {
  word = script.word;
  frames =
      frame 0 1 (row 1 0 [] ∷ row 2 0 [] ∷ row 3 0 [] ∷ row 4 0 [] ∷ row 5 0 [] ∷ row 6 0 [] ∷ [])
      ∷ frame 1000 2 (row 1 500000 [] ∷ row 2 500000 [] ∷ row 3 500000 [] ∷ [])
      ∷ frame 2000 3 (row 1 1000000 [] ∷ row 2 1000000 [] ∷ row 3 SHOWN_BY_ITS_FILL [] ∷ [])
      ∷ [];
  events =
      Started 1 1 0 (pos 0)
      ∷ Started 2 2 0 (pos 0)
      ∷ Started 3 3 0 (pos 0)
      ∷ Started 4 4 0 (pos 0)
      ∷ Started 5 5 0 (pos 0)
      ∷ Started 6 6 0 (pos 0)
      ∷ Aborted 4 2
      ∷ Aborted 5 2
      ∷ Aborted 6 2
      ∷ Finished 1 1000
      ∷ Finished 2 1000
      ∷ Finished 3 1000
      ∷ [];
  heard = 12 ∷ 12 ∷ [];
}

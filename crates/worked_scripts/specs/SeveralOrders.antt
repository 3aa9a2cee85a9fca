-- One script in several orders of its lanes, which show different commits.
use Rattle.std.specs.Prelude.{pos, List, [], ◌∷◌, codes}
use Rattle.anim_names.specs.declared.lane.Lane.{Lane}
use Rattle.anim_names.specs.declared.version.Version.TheVariants.{One}
use Rattle.transform_ops.specs.declared.op.TransformOp.{TransformOp}
use Rattle.transform_ops.specs.declared.op.TransformOp.TheVariants.{Skew}
use Rattle.run_rules.specs.declared.compositor_step.CompositorStep.TheVariants.{Pull, Activate, Tick}
use Rattle.run_rules.specs.Scripts.{ScriptLists, CommitStep}
use Rattle.run_rules.specs.Runs.{ReportLists}
use Rattle.worked_scripts.specs.Pieces.{letters, element, frame, row, element_at}

abbrev pub slanted : List TransformOp
slanted = Skew (pos 1) (pos 2) ∷ []

-- main's steps all come first
abbrev pub script : ScriptLists
script = record {
  version = One;
  main =
      element 1 100000
      ∷ CommitStep
      ∷ element_at 2 200000 slanted
      ∷ CommitStep
      ∷ [];
  compositor = Pull ∷ Activate ∷ Tick 0 ∷ Tick 1000 ∷ [];
  word = letters (codes "MMMMCCCC");
}

abbrev pub report : ReportLists
report = record {
  word = script.word;
  frames =
      frame 0 2 (row 1 100000 [] ∷ row 2 200000 slanted ∷ [])
      ∷ frame 1000 2 (row 1 100000 [] ∷ row 2 200000 slanted ∷ [])
      ∷ [];
  events = [];
  heard = 0 ∷ [];
}

-- The compositor pulls between the two commits, and activates before or after the second: both show the first.
abbrev pub first_word : List Lane
first_word = letters (codes "MMCCMMCC")

abbrev pub other_first_word : List Lane
other_first_word = letters (codes "MMCMMCCC")

abbrev pub first_report : List Lane → ReportLists
first_report word = record {
  word = word;
  frames = frame 0 1 (row 1 100000 [] ∷ []) ∷ frame 1000 1 (row 1 100000 [] ∷ []) ∷ [];
  events = [];
  heard = 0 ∷ [];
}

-- the compositor pulls too early, and finds nothing
abbrev pub early_word : List Lane
early_word = letters (codes "CMMMMCCC")

abbrev pub early_report : ReportLists
early_report = record { word = early_word; frames = frame 0 0 [] ∷ frame 1000 0 [] ∷ []; events = []; heard = 0 ∷ [] }

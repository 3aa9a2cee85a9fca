-- A pull while a commit is pending takes nothing, a second activation does nothing, and drains without news hear nothing.
use Rattle.std.specs.Prelude.{[], ◌∷◌, codes}
use Rattle.anim_names.specs.declared.version.Version.TheVariants.{One}
use Rattle.run_rules.specs.declared.compositor_step.CompositorStep.TheVariants.{Pull, Activate, Tick}
use Rattle.run_rules.specs.Scripts.{ScriptLists, CommitStep, DrainStep}
use Rattle.run_rules.specs.Runs.{ReportLists}
use Rattle.worked_scripts.specs.Pieces.{letters, element, frame, row}

abbrev pub script : ScriptLists
script = record {
  version = One;
  main = element 1 700000 ∷ CommitStep ∷ CommitStep ∷ DrainStep ∷ DrainStep ∷ [];
  compositor = Pull ∷ Pull ∷ Activate ∷ Activate ∷ Tick 5 ∷ Pull ∷ Tick 6 ∷ [];
  word = letters (codes "MMCMCCCCCCMM");
}

abbrev pub report : ReportLists
report = record {
  word = script.word;
  frames = frame 5 1 (row 1 700000 [] ∷ []) ∷ frame 6 1 (row 1 700000 [] ∷ []) ∷ [];
  events = [];
  heard = 0 ∷ 0 ∷ 0 ∷ [];
}

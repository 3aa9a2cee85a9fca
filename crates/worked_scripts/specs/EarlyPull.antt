-- A pull before any commit takes nothing, so the next pull can take the first commit.
use Rattle.std.specs.Prelude.{[], ◌∷◌, codes}
use Rattle.anim_names.specs.declared.version.Version.TheVariants.{One}
use Rattle.run_rules.specs.declared.compositor_step.CompositorStep.TheVariants.{Pull, Activate, Tick}
use Rattle.run_rules.specs.Scripts.{ScriptLists, CommitStep}
use Rattle.run_rules.specs.Runs.{ReportLists}
use Rattle.worked_scripts.specs.Pieces.{letters, element, frame, row}

abbrev pub script : ScriptLists
script = record {
  version = One;
  main = element 1 100000 ∷ CommitStep ∷ [];
  compositor = Pull ∷ Tick 0 ∷ Pull ∷ Activate ∷ Tick 0 ∷ [];
  word = letters (codes "CCMMCCC");
}

abbrev pub report : ReportLists
report = record {
  word = script.word;
  frames = frame 0 0 [] ∷ frame 0 1 (row 1 100000 [] ∷ []) ∷ [];
  events = [];
  heard = 0 ∷ [];
}

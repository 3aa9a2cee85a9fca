-- What a step of the compositor leaves.
use Rattle.std.proofs.Common.{◌≡◌, Bool, true, false, ◌&&◌, List, refl}
use Rattle.std.specs.Prelude.{is_none, nat_lt, if◌then◌else◌}
use Rattle.std.proofs.lemmas.Bool.{false≢true}
use Rattle.run_rules.specs.declared.compositor_step.CompositorStep.{CompositorStep}
use Rattle.run_rules.specs.declared.compositor_step.CompositorStep.TheVariants.{Pull, Activate, Tick}
use Rattle.tree_commit.specs.Trees.{Committed}
use Rattle.run_rules.specs.Runs.{CompositorLane, compositor_makes, newest_commit, with_pending}
use Rattle.run_rules.specs.Scripts.{is_quiet}

-- what no quiet step changes
pub record KeepsRun (old new : CompositorLane) : Type 0 where
  pub left : new.left ≡ old.left
  pub active : new.active ≡ old.active
  pub marks : new.marks ≡ old.marks
  pub frames : new.frames ≡ old.frames

pull-keeps : (newest : Committed) (lane : CompositorLane) (takes : Bool) → KeepsRun lane (if takes then with_pending newest lane else lane)
pull-keeps newest lane true = record { left = refl; active = refl; marks = refl; frames = refl }
pull-keeps newest lane false = record { left = refl; active = refl; marks = refl; frames = refl }

-- A quiet step makes no mark, draws no frame, and leaves the active commit.
pub quiet-keeps : (commits : List Committed) (step : CompositorStep) (lane : CompositorLane)
    → is_quiet step ≡ true → KeepsRun lane (compositor_makes commits step lane)
quiet-keeps commits Pull lane quiet =
    pull-keeps (newest_commit commits) lane (is_none lane.pending && nat_lt lane.pulled (newest_commit commits).number)
quiet-keeps commits Activate lane quiet = absurd (false≢true quiet)
quiet-keeps commits (Tick time) lane quiet = absurd (false≢true quiet)

-- What the steps of the code stand for.
use Rattle.run_rules.specs.declared.main_step.MainStep.{MainStep}
use Rattle.run_rules.specs.declared.main_step.MainStep.TheVariants as step
use Rattle.tree_commit.specs.Views.{change_of}
use Rattle.run_rules.specs.Scripts.{StepOfMain, EditStep, CommitStep, DrainStep}

abbrev pub step_of : MainStep → StepOfMain
step_of (step.Edit change) = EditStep (change_of change)
step_of step.Commit = CommitStep
step_of step.Drain = DrainStep

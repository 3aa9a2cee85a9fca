use Rattle.host_tests.proofs.NextCommits.{new_further}
use Rattle.host_tests.proofs.second_commit.make_small_edits.Goals as goal

pub loop-step-preserved : goal.loop-step-preserved
loop-step-preserved g c =
    new_further c.args.main.now.tree c.loop-step.main.tree c.make_small_step.new.main.tree c.loop-step.invariant
    c.make_small_step.ensures

use Rattle.std.proofs.Common.{subst}
use Rattle.tree_commit.specs.Trees.{Committed}
use Rattle.host_tests.specs.Steps.{GroupsAgree}
use Rattle.host_tests.proofs.FirstCommits.{follows-first, room-first}
use Rattle.host_tests.proofs.steps.push_first.Goals as goal

pub push_commit-requires-clause-follows : goal.push_commit-requires-clause-follows
push_commit-requires-clause-follows g c =
    follows-first c.args.host.now c.args.commit.now.value.tree c.requires.active c.requires.marks
    (subst (λ (a : Committed). GroupsAgree a.tree) c.deref.ensures c.expect_groups.ensures)

pub push_commit-requires-clause-room : goal.push_commit-requires-clause-room
push_commit-requires-clause-room g c =
    room-first c.args.host.now c.args.commit.now.value c.requires.active c.requires.marks c.requires.models

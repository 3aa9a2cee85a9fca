use Rattle.std.proofs.Common.{◌≡◌, drop, map}
use Rattle.host_tables.specs.CommitGroups.{group_entry, commit_groups_from, commit_groups}
use Rattle.host_tables.proofs.commit_groups.CommitGroups.of.Given as goal

abbrev pub invariant-loop-index : goal.invariant-loop-index
invariant-loop-index l =
    commit_groups_from l.index (map group_entry l.groups.entries) (drop l.index l.commit.tree.models) ≡ commit_groups l.commit.tree.models

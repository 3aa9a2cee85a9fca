-- What follows for two trees where one goes on from the other.
use Rattle.std.proofs.Common.{List}
use Rattle.run_rules.specs.declared.mark.Mark.{Mark}
use Rattle.run_rules.specs.Follows.{Follows, TreesAgree}
use Rattle.tree_commit.specs.Trees.{TreeLists}

-- the pending tree agrees with the active one
pub follows-agree : (active pending : TreeLists) (marks : List Mark) → Follows active pending marks → TreesAgree active pending
follows-agree active pending marks follows = record {
  one_model = follows.one_model;
  one_origin = λ id there there_too. (follows.timelines id there).1;
}

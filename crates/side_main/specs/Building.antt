-- The commit that main has built and not published, by main's tree.
use Rattle.std.specs.Prelude.{◌-◌, Bool, true, false, Option, Some, None}
use Rattle.main_tree.specs.EditedTrees.{EditedTree}
use Rattle.tree_commit.specs.Trees.{Committed, next_commit}

-- Where main has built a commit, it is the newest one, of the tree as it is: the tree stays until the commit is published.
abbrev pub built_of : Bool → EditedTree → Option Committed
built_of false tree = None
built_of true tree = Some (next_commit (tree.book.commits - 1) tree.tree)

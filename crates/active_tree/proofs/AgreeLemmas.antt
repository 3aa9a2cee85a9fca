-- When a commit agrees with the one before.
use Rattle.std.proofs.Common.{◌≡◌, sym, subst}
use Rattle.std.proofs.lemmas.Bool.{false≢true}
use Rattle.run_rules.specs.Follows.{TreesAgree}
use Rattle.tree_commit.specs.Trees.{Committed, TreeLists, empty_commit}

-- the empty commit has nothing that could differ
pub agree_from_empty : (old : Committed) (new : TreeLists) → old ≡ empty_commit → TreesAgree old.tree new
agree_from_empty old new is =
    subst (λ (t : Committed). TreesAgree t.tree new) (sym is) (record {
      one_model = λ model twin there also ids. absurd there;
      one_origin = λ id there also. absurd (false≢true there);
    })

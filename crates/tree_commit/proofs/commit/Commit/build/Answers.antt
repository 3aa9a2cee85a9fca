use Rattle.std.proofs.Common.{sym, subst, ◌∙◌}
use Rattle.tree_commit.specs.Tables.{HasAllTimelines}
use Rattle.tree_commit.proofs.TableLemmas.{tree_of_copies, copies_under_own_ids}
use Rattle.tree_commit.proofs.commit.Commit.build.Goals as goal

pub invariant_of-commit : goal.invariant_of-commit
invariant_of-commit c =
    let all = c.in_ok-elements.ensures in
    let two = rw all.0 at c.both.ensures in
    let elements = rw two.0 at c.clone.ensures.cases in
    let models = rw two.1 at c.clone-2.ensures.cases in
    let timelines = rw all.1 at c.clone-3.ensures.cases in (
      copies_under_own_ids _ _ _ _ _ _ elements models timelines c.requires.own_ids,
      subst HasAllTimelines (sym (tree_of_copies _ _ _ _ _ _ elements models timelines)) c.requires.timelines_there,
    )

pub returns : goal.returns
returns c =
    let all = c.in_ok-elements.ensures in
    let two = rw all.0 at c.both.ensures in
    let elements = rw two.0 at c.clone.ensures.cases in
    let models = rw two.1 at c.clone-2.ensures.cases in
    let timelines = rw all.1 at c.clone-3.ensures.cases in
    c.in_ok-new.ensures.ok
    ∙ (λ i. record { number = c.args.number; tree = tree_of_copies _ _ _ _ _ _ elements models timelines i })

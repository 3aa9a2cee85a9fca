use Rattle.std.proofs.Common.{◌≡◌, ◌≤◌, ◌||◌, length, ap, sym, refl, ◌∙◌, arith}
use Rattle.std.specs.List.{list_any}
use Rattle.tree_commit.specs.Trees.{groups_of}
use Rattle.host_tables.proofs.LoopLemmas.{any-last, any-next}
use Rattle.host_tables.proofs.CommitGroupsLemmas.{group-count, group-found}
use Rattle.anim_host.specs.Standing.{Stood}
use Rattle.anim_host.specs.Ticks.{group_finishes}
use Rattle.anim_host.proofs.finish.some_finish.Goals as goal

pub group_finishes-found-requires-clause-active : goal.group_finishes-found-requires-clause-active
group_finishes-found-requires-clause-active c = c.requires.active ∙ ap (λ (s : Stood). s.active) (sym c.loop-index.invariant.0)

pub group_finishes-found-requires-clause-last : goal.group_finishes-found-requires-clause-last
group_finishes-found-requires-clause-last c = ap (λ (s : Stood). s.last_tick) c.loop-index.invariant.0 ∙ c.requires.last

pub loop-index-preserved : goal.loop-index-preserved
loop-index-preserved c =
    let tree = c.args.active.now.tree in
    let same : c.loop-index.standing ≡ c.args.standing.now = c.loop-index.invariant.0 in
    let test = group_finishes tree c.args.standing.now.list.marks c.args.tick in
    let here : c.group_finishes-found.result ≡ test c.group_at.result = rw same at c.group_finishes-found.ensures.finishes in (
      c.group_finishes-found.ensures.same ∙ same,
      any-next (list_any test) (groups_of tree) c.loop-index.index c.group_at.result c.loop-index.found _ (test c.group_at.result) _
          (group-found tree.models c.args.groups.now c.loop-index.index c.group_at.result c.requires.groups c.group_at.ensures)
          refl
          (ap (λ b. c.loop-index.found || b) here) c.loop-index.invariant.1,
    )

pub returns-clause-finish : goal.returns-clause-finish
returns-clause-finish c =
    let tree = c.args.active.now.tree in
    let groups = groups_of tree in
    let test = group_finishes tree c.args.standing.now.list.marks c.args.tick in
    let count = group-count tree.models c.args.groups.now c.requires.groups in
    let past_test = c.loop-index-test.false in
    let all = c.group_count-index-end.ensures in
    let past : length groups ≤ c.loop-index.index = omega arith in
    any-last (list_any test) groups c.loop-index.index c.loop-index.found _ past refl c.loop-index.invariant.1

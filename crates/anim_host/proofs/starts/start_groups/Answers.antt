use Rattle.std.proofs.Common.{◌≡◌, ◌≤◌, length, ap, ◌∙◌, arith}
use Rattle.tree_commit.specs.Trees.{groups_of}
use Rattle.host_tables.specs.MarkLists.{with_marks}
use Rattle.anim_host.specs.Standing.{Stood}
use Rattle.tree_commit.specs.Trees.{Committed}
use Rattle.std.proofs.Common.{Option}
use Rattle.run_rules.specs.Marks.{group_marks}
use Rattle.anim_host.proofs.GrowLemmas.{stood-same}
use Rattle.tree_commit.proofs.Among.{drop-found}
use Rattle.host_tables.proofs.CommitGroupsLemmas.{group-count, group-found}
use Rattle.anim_host.proofs.StartLemmas.{starting-last, starting-next}
use Rattle.anim_host.proofs.starts.start_groups.Goals as goal

pub loop-index-preserved : goal.loop-index-preserved
loop-index-preserved c =
    let tree = c.args.active.now.tree in
    let groups = groups_of tree in
    let index = c.loop-index.index in
    let group = c.group_at.result in
    let old = c.args.standing.now in
    let now = c.loop-index.standing in
    let new = c.start_group.new.standing in
    let found = drop-found groups index group (group-found tree.models c.args.groups.now index group c.requires.groups c.group_at.ensures) in
    let is : new.list ≡ with_marks now.list (group_marks tree old.pending now.list.marks c.args.tick group) =
    ap (λ (s : Stood). s.list) c.start_group.ensures.marks
    ∙ ap (λ (p : Option Committed). with_marks now.list (group_marks tree p now.list.marks c.args.tick group)) c.loop-index.invariant.2 in (
      starting-next tree old.pending c.args.tick groups index old.list now.list new.list group found is c.loop-index.invariant.0,
      ap (λ (s : Stood). s.active) c.start_group.ensures.marks ∙ c.loop-index.invariant.1,
      ap (λ (s : Stood). s.pending) c.start_group.ensures.marks ∙ c.loop-index.invariant.2,
      ap (λ (s : Stood). s.last_tick) c.start_group.ensures.marks ∙ c.loop-index.invariant.3,
      c.start_group.ensures.settled,
    )

pub returns-clause-marks : goal.returns-clause-marks
returns-clause-marks c =
    let tree = c.args.active.now.tree in
    let groups = groups_of tree in
    let old = c.args.standing.now in
    let count = group-count tree.models c.args.groups.now c.requires.groups in
    let test = c.loop-index-test.false in
    let all = c.group_count-index-end.ensures in
    let past : length groups ≤ c.loop-index.index = omega arith in
    stood-same old c.loop-index.standing _ c.loop-index.invariant.1 c.loop-index.invariant.2
    (starting-last tree old.pending c.args.tick groups c.loop-index.index old.list c.loop-index.standing.list past c.loop-index.invariant.0)
    c.loop-index.invariant.3

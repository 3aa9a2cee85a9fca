use Rattle.std.proofs.Common.{◌≡◌, ◌≤◌, ◌+◌, drop, length, ap, arith}
use Rattle.std.proofs.lemmas.List.{drop_all}
use Rattle.tree_commit.specs.Trees.{groups_of, members_of}
use Rattle.anim_host.specs.Ticks.{start_room}
use Rattle.tree_commit.proofs.Among.{drop-found}
use Rattle.host_tables.proofs.CommitGroupsLemmas.{group-count, group-found, indices-length}
use Rattle.anim_host.proofs.starts.start_room.Goals as goal

pub loop-index-preserved : goal.loop-index-preserved
loop-index-preserved c =
    let tree = c.args.active.now.tree in
    let groups = groups_of tree in
    let index = c.loop-index.index in
    let group = c.group_at.result in
    let left : start_room tree (drop index groups) ≡ length (members_of tree group) + start_room tree (drop (index + 1) groups) =
    ap (start_room tree) (drop-found groups index group (group-found tree.models c.args.groups.now index group c.requires.groups c.group_at.ensures)) in
    let many : length c.indices.result.now ≡ length (members_of tree group) = indices-length tree.models c.args.groups.now group c.indices.result.now c.requires.groups c.indices.ensures in
    let so_far = c.loop-index.invariant in
    let sum = c.in_ok-room.ensures in
    omega arith

pub returns : goal.returns
returns c =
    let tree = c.args.active.now.tree in
    let groups = groups_of tree in
    let count = group-count tree.models c.args.groups.now c.requires.groups in
    let test = c.loop-index-test.false in
    let all = c.group_count-index-end.ensures in
    let past : length groups ≤ c.loop-index.index = omega arith in
    let none : start_room tree (drop c.loop-index.index groups) ≡ 0 = ap (start_room tree) (drop_all c.loop-index.index groups past) in
    let so_far = c.loop-index.invariant in
    omega arith

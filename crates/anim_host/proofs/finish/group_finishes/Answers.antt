use Rattle.std.proofs.Common.{◌≡◌, List, true, false, filter, ap, sym, ◌∙◌}
use Rattle.std.specs.Prelude.{◌&&◌}
use Rattle.std.specs.List.{list_all, list_any}
use Rattle.keyframe_model.specs.Models.{Spec}
use Rattle.run_rules.specs.Marks.{are_over, is_over, is_unfinished, start_of}
use Rattle.tree_commit.specs.Trees.{Committed, members_of}
use Rattle.host_tables.proofs.CommitGroupsLemmas.{indices-members, indices-within}
use Rattle.anim_host.proofs.finish.group_finishes.Goals as goal

pub are_over-requires-clause-indices : goal.are_over-requires-clause-indices
are_over-requires-clause-indices c =
    indices-within c.args.active.now.tree.models c.args.groups.now c.args.group c.indices.result.now c.requires.groups c.indices.ensures

pub returns-then-some_run-clause-finishes : goal.returns-then-some_run-clause-finishes
returns-then-some_run-clause-finishes c =
    let tree = c.args.active.now.tree in
    let marks = c.args.standing.now.list.marks in
    let group = c.args.group in
    let passes = λ (m : Spec). is_over tree c.args.tick m (start_of marks m.id) in
    let runs = λ (m : Spec). is_unfinished marks m.id in
    let run : list_any runs (members_of tree group) ≡ true =
    ap (λ (s : Committed). list_any runs (members_of s.tree group)) c.requires.active ∙ sym c.some_run.ensures ∙ c.if-some_run.true in
    c.are_over.ensures.over
    ∙ ap (λ (ms : List Spec). list_all passes (filter runs ms)) (indices-members tree.models c.args.groups.now group c.indices.result.now c.requires.groups c.indices.ensures)
    ∙ sym (ap (λ b. b && are_over tree marks c.args.tick group) run)

pub returns-else-some_run-clause-finishes : goal.returns-else-some_run-clause-finishes
returns-else-some_run-clause-finishes c =
    let tree = c.args.active.now.tree in
    let marks = c.args.standing.now.list.marks in
    let group = c.args.group in
    let runs = λ (m : Spec). is_unfinished marks m.id in
    let none : list_any runs (members_of tree group) ≡ false =
    ap (λ (s : Committed). list_any runs (members_of s.tree group)) c.requires.active ∙ sym c.some_run.ensures ∙ c.if-some_run.false in
    c.if-some_run.false ∙ sym (ap (λ b. b && are_over tree marks c.args.tick group) none)

use Rattle.std.proofs.Common.{◌≡◌, List, ℕ, ◌+◌, map, drop, arith, ap, sym, ◌∙◌}
use Rattle.std.proofs.lemmas.List.{drop_all}
use Rattle.keyframe_model.specs.Models.{Spec}
use Rattle.host_tables.specs.CommitGroups.{group_entry, commit_groups_from, with_index}
use Rattle.tree_commit.proofs.Among.{drop-found}
use Rattle.host_tables.proofs.commit_groups.CommitGroups.of.Goals as goal

pub loop-index-preserved : goal.loop-index-preserved
loop-index-preserved c =
    let models = c.args.commit.now.tree.models in
    let index = c.loop-index.index in
    let model = c.model_at.result.now.value in
    let old = map group_entry c.loop-index.groups.entries in
    let is : c.group.result ≡ model.group = c.group.ensures ∙ ap (λ (m : Spec). m.group) c.deref.ensures in
    ap (λ (s : List (ℕ × List ℕ)). commit_groups_from (index + 1) s (drop (index + 1) models)) (c.in_ok-add_index.ensures ∙ ap (λ (g : ℕ). with_index index g old) is)
    ∙ sym (ap (λ (l : List Spec). commit_groups_from index old l) (drop-found models index model c.model_at.ensures))
    ∙ c.loop-index.invariant

pub returns : goal.returns
returns c =
    let old = map group_entry c.loop-index.groups.entries in
    sym (ap (λ (l : List Spec). commit_groups_from c.loop-index.index old l) (drop_all c.loop-index.index c.args.commit.now.tree.models (omega arith)))
    ∙ c.loop-index.invariant

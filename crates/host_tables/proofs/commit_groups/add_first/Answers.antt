use Rattle.std.proofs.Common.{[], ◌∷◌, ◌++◌, List, ℕ, ap, ◌∙◌}
use Rattle.host_tables.proofs.CommitGroupsLemmas.{with_index-first}
use Rattle.host_tables.proofs.commit_groups.add_first.Goals as goal

pub returns : goal.returns
returns c =
    rw c.in_ok-insert.ensures.entries
    (with_index-first c.args.index c.args.group c.push.new.self c.args.groups.now.entries (c.in_ok-push.ensures.items ∙ ap (λ (ps : List ℕ). ps ++ c.args.index ∷ []) c.new-indices.ensures.items) c.requires)

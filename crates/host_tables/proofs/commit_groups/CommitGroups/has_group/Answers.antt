use Rattle.std.proofs.Common.{◌∙◌, ap, sym, nat_eq}
use Rattle.std.specs.Prelude.{is_some}
use Rattle.std.specs.Map.{lookup}
use Rattle.host_tables.proofs.CommitGroupsLemmas.{lookup-entries}
use Rattle.tree_commit.proofs.TableLemmas.{is_some-option_map}
use Rattle.host_tables.proofs.commit_groups.CommitGroups.has_group.Goals as goal

pub returns : goal.returns
returns c =
    let entries = c.self.inside.groups.entries in
    rw (← c.self.view_is)
    (c.contains_key.ensures ∙ sym (ap is_some (lookup-entries c.args.group entries) ∙ is_some-option_map (λ v. v.items) (lookup (nat_eq c.args.group) entries)))

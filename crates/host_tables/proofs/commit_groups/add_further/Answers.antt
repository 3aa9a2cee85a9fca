use Rattle.std.proofs.Common.{◌≡◌, ◌∙◌, ap, sym, map, Some, nat_eq}
use Rattle.std.specs.Map.{lookup}
use Rattle.std.specs.Option.{option_copied_mut}
use Rattle.host_tables.specs.CommitGroups.{group_entry}
use Rattle.host_tables.proofs.CommitGroupsLemmas.{with_index-further}
use Rattle.host_tables.proofs.commit_groups.add_further.Goals as goal

pub returns : goal.returns
returns c =
    let found : lookup (nat_eq c.args.group) c.args.groups.now.entries ≡ Some c.unwrap-indices.result.now =
    sym c.get_mut.ensures.value ∙ ap option_copied_mut c.unwrap-indices.ensures in
    ap (map group_entry) (c.get_mut.follows.holds _).0
    ∙ with_index-further c.args.index c.args.group c.unwrap-indices.result.now c.push.new.self c.args.groups.now.entries c.in_ok-push.ensures.items found

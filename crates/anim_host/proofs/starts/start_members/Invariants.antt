use Rattle.std.proofs.Common.{◌≡◌, ◌≢◌, ℕ, map}
use Rattle.std.specs.List.{list_any}
use Rattle.anim_names.specs.declared.property.Property.{Property}
use Rattle.run_rules.specs.Marks.{blocks, is_ended, is_group_unfinished, start_mark, starts_in}
use Rattle.host_tables.specs.CommitGroups.{at_indices}
use Rattle.anim_host.proofs.GrowLemmas.{Growing}
use Rattle.anim_host.proofs.starts.start_members.Given as goal

abbrev pub invariant-loop-position : goal.invariant-loop-position
invariant-loop-position l =
    Growing (λ indices. map (start_mark l.active.tree l.tick) (at_indices l.active.tree.models indices)) l.indices l.position l.fn.standing l.standing
    × ((id : ℕ) → is_ended l.standing.list.marks id ≡ is_ended l.fn.standing.list.marks id)
    × (list_any (starts_in l.fn.group) l.standing.list.marks ≡ is_group_unfinished l.standing.list.marks l.fn.group)
    × ((other element : ℕ) (property : Property) → other ≢ l.fn.group
    → blocks l.standing.list.marks other element property ≡ blocks l.fn.standing.list.marks other element property)

use Rattle.std.proofs.Common.{◌≡◌, ℕ, nat_eq, List, Option, Some, None, false, ap, sym, refl, ◌∙◌}
use Rattle.std.specs.Prelude.{is_some, option_map}
use Rattle.std.specs.Map.{lookup}
use Rattle.std.proofs.lemmas.Option.{none-some, same_Some}
use Rattle.tree_commit.specs.Trees.{Committed}
use Rattle.host_tables.specs.CommitGroups.{commit_groups}
use Rattle.host_tables.proofs.CommitGroupsLemmas.{group-has}
use Rattle.anim_host.specs.Standing.{pending_has_group}
use Rattle.anim_host.proofs.starts.pending_has_group.Goals as goal

none-has : (pending : Option Committed) (group : ℕ) → None ≡ option_map (λ (commit : Committed). commit_groups commit.tree.models) pending → false ≡ pending_has_group pending group
none-has None group is = refl
none-has (Some commit) group is = absurd (none-some _ is)

groups-have : (pending : Option Committed) (grouped : List (ℕ × List ℕ)) (group : ℕ)
    → Some grouped ≡ option_map (λ (commit : Committed). commit_groups commit.tree.models) pending
    → is_some (lookup (nat_eq group) grouped) ≡ pending_has_group pending group
groups-have None grouped group is = absurd (none-some _ (sym is))
groups-have (Some commit) grouped group is =
    ap (λ (s : List (ℕ × List ℕ)). is_some (lookup (nat_eq group) s)) (same_Some grouped (commit_groups commit.tree.models) is) ∙ group-has commit.tree.models group

pub returns-in-None : goal.returns-in-None
returns-in-None c = λ pending is. none-has pending c.args.group (sym c.in-None.is ∙ is)

pub returns-in-Some : goal.returns-in-Some
returns-in-Some c = λ pending is. c.has_group.ensures ∙ groups-have pending c.in-Some.groups c.args.group (sym c.in-Some.is ∙ is)

use Rattle.std.proofs.Common.{◌≡◌, ◌≤◌, ◌+◌, ℕ, [], take, length}
use Rattle.std.specs.Prelude.{IfSome}
use Rattle.run_rules.specs.declared.mark.Mark.{Mark}
use Rattle.host_tables.specs.Groups.{group_at, group_row_of}
use Rattle.host_tables.specs.Rows.{marked_at}
use Rattle.host_tables.specs.States.{FinishesStarted, row_for}
use Rattle.std.proofs.Common.{List}
use Rattle.anim_host.proofs.standing.count_groups.Given as goal

abbrev pub invariant-loop-index : goal.invariant-loop-index
invariant-loop-index l =
    (length l.commit.tree.models ≤ l.index + l.groups.room)
    × ((group : ℕ) → IfSome (group_at l.groups group) (λ row. (row.waiting ≤ l.index) × (row.unfinished ≤ l.index)))
    × ((marks : List Mark)
    → FinishesStarted marks
    → ((id : ℕ) → marked_at l.rows id ≡ row_for l.commit.tree.models [] marks id)
    → (group : ℕ) → group_at l.groups group ≡ group_row_of (take l.index l.commit.tree.models) marks group)

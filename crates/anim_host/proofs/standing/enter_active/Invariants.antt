use Rattle.std.proofs.Common.{◌≡◌, ℕ, true, List, [], take, drop}
use Rattle.host_tables.specs.Rows.{marked_at, row_at, says_over}
use Rattle.host_tables.specs.States.{row_for}
use Rattle.run_rules.specs.declared.mark.Mark.{Mark}
use Rattle.anim_host.proofs.standing.enter_active.Given as goal

abbrev pub invariant-loop-index : goal.invariant-loop-index
invariant-loop-index l =
    ((marks : List Mark)
    → ((id : ℕ) → marked_at l.fn.rows id ≡ row_for [] l.commit.tree.models marks id)
    → (id : ℕ) → marked_at l.rows id ≡ row_for (take l.index l.commit.tree.models) (drop l.index l.commit.tree.models) marks id)
    × ((id : ℕ) → says_over (row_at l.rows id) ≡ true → says_over (row_at l.fn.rows id) ≡ true)

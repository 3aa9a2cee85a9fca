use Rattle.std.proofs.Common.{◌≡◌, ◌≤◌, ◌+◌, ℕ, true, false, List, [], take, length}
use Rattle.host_tables.specs.Rows.{marked_at, row_at, says_over}
use Rattle.host_tables.specs.States.{is_among, row_for, state_of}
use Rattle.keyframe_effect.specs.declared.state.RunState.TheVariants.{Waiting}
use Rattle.keyframe_model.specs.Models.{Spec}
use Rattle.run_rules.specs.declared.mark.Mark.{Mark}
use Rattle.anim_names.specs.Lists.{IsAmong}
use Rattle.anim_host.proofs.standing.join_pending.Given as goal

abbrev pub invariant-loop-index : goal.invariant-loop-index
invariant-loop-index l =
    (length l.commit.tree.models ≤ l.index + l.rows.room)
    × ((active : List Spec) (marks : List Mark)
    → ((model : Spec) → IsAmong model l.commit.tree.models → is_among active model.id ≡ false → state_of marks model.id ≡ Waiting)
    → ((id : ℕ) → marked_at l.fn.rows id ≡ row_for active [] marks id)
    → (id : ℕ) → marked_at l.rows id ≡ row_for active (take l.index l.commit.tree.models) marks id)
    × ((id : ℕ) → says_over (row_at l.rows id) ≡ true → says_over (row_at l.fn.rows id) ≡ true)

use Rattle.std.proofs.Common.{◌≡◌, ◌≢◌, ℕ, List, Some, arith, ap, sym, ◌∙◌}
use Rattle.std.specs.Prelude.{option_map}
use Rattle.std.proofs.lemmas.List.{take_all}
use Rattle.keyframe_model.specs.Models.{Spec}
use Rattle.tree_commit.proofs.Among.{among-found}
use Rattle.host_tables.specs.Rows.{joined, marked_at, marked_row, row_at, says_over}
use Rattle.host_tables.specs.States.{row_for}
use Rattle.host_tables.proofs.MarkedLemmas.{over-back, row-marked-joined, row-over-joined}
use Rattle.anim_host.proofs.StandLemmas.{joined-next}
use Rattle.anim_host.proofs.standing.join_pending.Goals as goal

pub loop-index-init : goal.loop-index-init
loop-index-init c = (omega arith, λ active marks waits stand. stand, λ id says. says)

pub loop-index-preserved : goal.loop-index-preserved
loop-index-preserved c =
    let room = c.loop-index.invariant.0 in
    let fewer = c.join_pending.ensures.room in
    let model = c.model_at.result.now.value in
    let is : c.id.result ≡ model.id = c.id.ensures.value ∙ ap (λ (m : Spec). m.id) c.deref.ensures in
    let now = c.loop-index.rows in
    let new = c.join_pending.new.self in
    let here : row_at new model.id ≡ Some (joined model.id (row_at now model.id)) = rw is at c.join_pending.ensures.here in
    let others : (id : ℕ) → id ≢ model.id → row_at new id ≡ row_at now id = rw is at c.join_pending.ensures.others in (
      omega arith,
      λ active marks waits stand.
          joined-next (marked_at now) (marked_at new) active c.args.commit.now.tree.models marks c.loop-index.index model
          c.model_at.ensures (waits model (among-found model c.args.commit.now.tree.models c.loop-index.index c.model_at.ensures))
          (ap (option_map marked_row) here ∙ row-marked-joined model.id (row_at now model.id))
          (λ id differ. ap (option_map marked_row) (others id differ))
          (c.loop-index.invariant.1 active marks waits stand),
      λ id says.
          c.loop-index.invariant.2 id
          (over-back (row_at now) (row_at new) model.id (λ it. row-over-joined model.id (row_at now model.id) (sym (ap says_over here) ∙ it)) others id says),
    )

pub returns-clause-rows : goal.returns-clause-rows
returns-clause-rows c = λ active marks waits stand id.
    c.loop-index.invariant.1 active marks waits stand id
    ∙ ap (λ (ms : List Spec). row_for active ms marks id) (take_all c.loop-index.index c.args.commit.now.tree.models (omega arith))

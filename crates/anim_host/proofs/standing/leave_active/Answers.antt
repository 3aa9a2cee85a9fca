use Rattle.std.proofs.Common.{◌≡◌, ◌≢◌, ℕ, List, arith, ap, sym, ◌∙◌}
use Rattle.std.specs.Prelude.{option_and_then, option_map}
use Rattle.std.proofs.lemmas.List.{drop_all}
use Rattle.keyframe_model.specs.Models.{Spec}
use Rattle.host_tables.specs.Rows.{left, marked_at, marked_row, row_at, says_over}
use Rattle.host_tables.specs.States.{row_for}
use Rattle.host_tables.proofs.MarkedLemmas.{over-back, row-marked-left, row-over-left}
use Rattle.anim_host.proofs.StandLemmas.{left-next}
use Rattle.anim_host.proofs.standing.leave_active.Goals as goal

pub loop-index-init : goal.loop-index-init
loop-index-init c = (λ pending marks stand. stand, λ id says. says)

pub loop-index-preserved : goal.loop-index-preserved
loop-index-preserved c =
    let model = c.model_at.result.now.value in
    let is : c.id.result ≡ model.id = c.id.ensures.value ∙ ap (λ (m : Spec). m.id) c.deref.ensures in
    let now = c.loop-index.rows in
    let new = c.leave_active.new.self in
    let here : row_at new model.id ≡ option_and_then left (row_at now model.id) = rw is at c.leave_active.ensures.here in
    let others : (id : ℕ) → id ≢ model.id → row_at new id ≡ row_at now id = rw is at c.leave_active.ensures.others in (
      λ pending marks stand.
          left-next (marked_at now) (marked_at new) c.args.commit.now.tree.models pending marks c.loop-index.index model
          c.model_count-index-end.ensures.differ c.model_at.ensures
          (ap (option_map marked_row) here ∙ row-marked-left (row_at now model.id))
          (λ id differ. ap (option_map marked_row) (others id differ))
          (c.loop-index.invariant.0 pending marks stand),
      λ id says.
          c.loop-index.invariant.1 id
          (over-back (row_at now) (row_at new) model.id (λ it. row-over-left (row_at now model.id) (sym (ap says_over here) ∙ it)) others id says),
    )

pub returns-clause-rows : goal.returns-clause-rows
returns-clause-rows c = λ pending marks stand id.
    c.loop-index.invariant.0 pending marks stand id
    ∙ ap (λ (ms : List Spec). row_for ms pending marks id) (drop_all c.loop-index.index c.args.commit.now.tree.models (omega arith))

use Rattle.std.proofs.Common.{◌≡◌, ◌≢◌, ℕ, List, arith, ap, sym, ◌∙◌, drop}
use Rattle.std.specs.Prelude.{option_map}
use Rattle.std.proofs.lemmas.List.{drop_all, take_all}
use Rattle.keyframe_model.specs.Models.{Spec}
use Rattle.host_tables.specs.Rows.{entered, marked_at, marked_row, row_at, says_over}
use Rattle.host_tables.specs.States.{row_for}
use Rattle.host_tables.proofs.MarkedLemmas.{over-back, row-marked-entered, row-over-entered}
use Rattle.anim_host.proofs.StandLemmas.{entered-next}
use Rattle.anim_host.proofs.standing.enter_active.Goals as goal

pub loop-index-init : goal.loop-index-init
loop-index-init c = (λ marks stand. stand, λ id says. says)

pub loop-index-preserved : goal.loop-index-preserved
loop-index-preserved c =
    let model = c.model_at.result.now.value in
    let is : c.id.result ≡ model.id = c.id.ensures.value ∙ ap (λ (m : Spec). m.id) c.deref.ensures in
    let now = c.loop-index.rows in
    let new = c.enter_active.new.self in
    let here : row_at new model.id ≡ option_map entered (row_at now model.id) = rw is at c.enter_active.ensures.here in
    let others : (id : ℕ) → id ≢ model.id → row_at new id ≡ row_at now id = rw is at c.enter_active.ensures.others in (
      λ marks stand.
          entered-next (marked_at now) (marked_at new) c.args.commit.now.tree.models marks c.loop-index.index model
          c.model_count-index-end.ensures.differ c.model_at.ensures
          (ap (option_map marked_row) here ∙ row-marked-entered (row_at now model.id))
          (λ id differ. ap (option_map marked_row) (others id differ))
          (c.loop-index.invariant.0 marks stand),
      λ id says.
          c.loop-index.invariant.1 id
          (over-back (row_at now) (row_at new) model.id (λ it. row-over-entered (row_at now model.id) (sym (ap says_over here) ∙ it)) others id says),
    )

pub returns-clause-rows : goal.returns-clause-rows
returns-clause-rows c = λ marks stand id.
    c.loop-index.invariant.0 marks stand id
    ∙ ap (λ (ms : List Spec). row_for ms (drop c.loop-index.index c.args.commit.now.tree.models) marks id) (take_all c.loop-index.index c.args.commit.now.tree.models (omega arith))
    ∙ ap (λ (ms : List Spec). row_for c.args.commit.now.tree.models ms marks id) (drop_all c.loop-index.index c.args.commit.now.tree.models (omega arith))

use Rattle.std.proofs.Common.{◌≡◌, ◌≢◌, ◌≤◌, ◌<◌, ◌+◌, ℕ, List, Option, Some, None, arith, ap, sym, subst, inl, inr, ◌∙◌}
use Rattle.std.specs.Prelude.{IfSome}
use Rattle.std.proofs.lemmas.Bool.Decides.{eqb_tells}
use Rattle.std.proofs.lemmas.List.{take_all}
use Rattle.keyframe_model.specs.Models.{Spec}
use Rattle.keyframe_effect.specs.declared.group.GroupRow.{GroupRow}
use Rattle.keyframe_effect.specs.declared.state.RunState.{RunState}
use Rattle.host_tables.specs.Groups.{group_at, group_row_of, joined_row}
use Rattle.host_tables.specs.Rows.{row_at, state_in}
use Rattle.host_tables.proofs.GroupLemmas.{joined-few}
use Rattle.anim_host.proofs.StandLemmas.{group-nowhere, joined-group-next}
use Rattle.anim_host.proofs.standing.count_groups.Goals as goal

abbrev AreFew : ℕ → Option GroupRow → Type 0
AreFew n o = IfSome o (λ row. (row.waiting ≤ n) × (row.unfinished ≤ n))

few-more : (n : ℕ) (o : Option GroupRow) → AreFew n o → AreFew (n + 1) o
few-more n None few = tt
few-more n (Some row) few = (let w = few.0 in omega (arith, w), let r = few.1 in omega (arith, r))

few-next : (at new : ℕ → Option GroupRow) (model : Spec) (state : RunState) (n : ℕ)
    → ((g : ℕ) → AreFew n (at g))
    → new model.group ≡ Some (joined_row model state (at model.group))
    → ((g : ℕ) → g ≢ model.group → new g ≡ at g)
    → (g : ℕ) → AreFew (n + 1) (new g)
few-next at new model state n few here others g =
    elim (eqb_tells g model.group) [
      | inl t ↦ subst (AreFew (n + 1)) (sym (ap new t.1 ∙ here)) (joined-few model state (at model.group) n (few model.group))
      | inr f ↦ subst (AreFew (n + 1)) (sym (others g f.1)) (few-more n (at g) (few g))
    ]

below-waiting : (n most : ℕ) (o : Option GroupRow) → n < most → AreFew n o → IfSome o (λ row. row.waiting < most)
below-waiting n most None lt few = tt
below-waiting n most (Some row) lt few = let w = few.0 in omega (arith, w, lt)

below-running : (n most : ℕ) (o : Option GroupRow) → n < most → AreFew n o → IfSome o (λ row. row.unfinished < most)
below-running n most None lt few = tt
below-running n most (Some row) lt few = let r = few.1 in omega (arith, r, lt)

pub loop-index-init : goal.loop-index-init
loop-index-init c = (
  let same = c.clear.ensures.room in let room = c.requires.room in omega arith,
  λ g. subst (AreFew 0) (sym (c.clear.ensures.none g)) tt,
  λ marks fits stand g. c.clear.ensures.none g ∙ sym (group-nowhere marks g),
)

pub join-requires-clause-room : goal.join-requires-clause-room
join-requires-clause-room c =
    let room = c.loop-index.invariant.0 in
    omega arith

pub join-requires-clause-waiting : goal.join-requires-clause-waiting
join-requires-clause-waiting c =
    below-waiting c.loop-index.index _ (group_at c.loop-index.groups _) (omega arith) (c.loop-index.invariant.1 _)

pub join-requires-clause-unfinished : goal.join-requires-clause-unfinished
join-requires-clause-unfinished c =
    below-running c.loop-index.index _ (group_at c.loop-index.groups _) (omega arith) (c.loop-index.invariant.1 _)

pub loop-index-preserved : goal.loop-index-preserved
loop-index-preserved c =
    let models = c.args.commit.now.tree.models in
    let index = c.loop-index.index in
    let model = c.model_at-model.result.now.value in
    let room = c.loop-index.invariant.0 in
    let fewer = c.join.ensures.room in
    let here = rw c.deref.ensures at c.join.ensures.here in
    let others = rw c.deref.ensures at c.join.ensures.others in (
      omega arith,
      few-next (group_at c.loop-index.groups) (group_at c.join.new.self) model c.state.result index c.loop-index.invariant.1 here others,
      λ marks fits stand.
          joined-group-next (group_at c.loop-index.groups) (group_at c.join.new.self) models marks index model c.state.result (row_at c.args.rows.now)
          c.model_at-model.ensures fits stand
          (c.state.ensures ∙ ap (λ id. state_in (row_at c.args.rows.now id)) (c.id.ensures.value ∙ ap (λ (m : Spec). m.id) c.deref-in-loop-index.ensures))
          here others (c.loop-index.invariant.2 marks fits stand),
    )

pub returns : goal.returns
returns c = λ marks fits stand g.
    c.loop-index.invariant.2 marks fits stand g
    ∙ ap (λ (ms : List Spec). group_row_of ms marks g) (take_all c.loop-index.index c.args.commit.now.tree.models (omega arith))

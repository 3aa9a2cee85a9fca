use Rattle.std.proofs.Common.{◌≡◌, ◌<◌, ◌≤◌, ◌+◌, ◌++◌, ◌∷◌, [], ℕ, List, Bool, true, false, drop, filter, length, length-append, refl, ap, sym, subst, ◌∙◌, arith}
use Rattle.std.specs.Prelude.{if◌then◌else◌}
use Rattle.std.specs.List.{AllByRecursion}
use Rattle.keyframe_model.specs.Models.{Spec}
use Rattle.tree_commit.specs.Trees.{has_model}
use Rattle.anim_host.specs.Ticks.{finishes}
use Rattle.host_tables.specs.CommitGroups.{at_indices}
use Rattle.anim_host.specs.Standing.{Stood}
use Rattle.host_tables.proofs.AmongLemmas.{found-there}
use Rattle.host_tables.proofs.LoopLemmas.{made-last, made-next}
use Rattle.anim_host.proofs.SettleLemmas.{at-pushed, below-pushed, gives-model}
use Rattle.anim_host.proofs.finish.gather.Goals as goal

at-most-one : (b : Bool) (index : ℕ) → length (if b then index ∷ [] else []) ≤ 1
at-most-one true index = omega arith
at-most-one false index = omega arith

pub finishes-is_finished-requires-clause-there : goal.finishes-is_finished-requires-clause-there
finishes-is_finished-requires-clause-there c =
    ap (λ (m : Spec). has_model c.args.active.now.tree m.id) c.deref.ensures
    ∙ found-there c.args.active.now.tree.models c.loop-index.index c.model_at.result.now.value c.model_at.ensures

pub finishes-is_finished-requires-clause-active : goal.finishes-is_finished-requires-clause-active
finishes-is_finished-requires-clause-active c = c.requires.active ∙ ap (λ (s : Stood). s.active) (sym c.loop-index.invariant.0)

pub finishes-is_finished-requires-clause-last : goal.finishes-is_finished-requires-clause-last
finishes-is_finished-requires-clause-last c = ap (λ (s : Stood). s.last_tick) c.loop-index.invariant.0 ∙ c.requires.last

pub loop-index-preserved : goal.loop-index-preserved
loop-index-preserved c =
    let models = c.args.active.now.tree.models in
    let index = c.loop-index.index in
    let model = c.model_at.result.now.value in
    let old = c.args.standing.now in
    let same : c.loop-index.standing ≡ old = c.loop-index.invariant.0 in
    let test = finishes c.args.active.now.tree old.list.marks c.args.tick in
    let items = c.loop-index.indices.items in
    let test_is : c.finishes-is_finished.result ≡ test model = rw (c.deref.ensures, same) at c.finishes-is_finished.ensures.finishes in
    let pushed : c.push_if.new.indices.items ≡ items ++ (if test model then index ∷ [] else []) =
    c.push_if.ensures.items ∙ ap (λ (b : Bool). items ++ (if b then index ∷ [] else [])) test_is in
    let lt : index < length models = omega arith in
    let few = c.loop-index.invariant.3 in
    let one : length (if test model then index ∷ [] else []) ≤ 1 = at-most-one (test model) index in
    let grown : length c.push_if.new.indices.items ≡ length items + length (if test model then index ∷ [] else []) =
    ap (λ (l : List ℕ). length l) pushed ∙ length-append items (if test model then index ∷ [] else []) in (
      c.finishes-is_finished.ensures.same ∙ same,
      made-next (λ (ms : List Spec). filter test ms) models index model (at_indices models items) (at_indices models c.push_if.new.indices.items)
          (if test model then model ∷ [] else []) _
          c.model_at.ensures (gives-model test model (drop (index + 1) models) (test model))
          (ap (at_indices models) pushed ∙ at-pushed models items index model (test model) c.model_at.ensures)
          c.loop-index.invariant.1,
      subst (AllByRecursion (λ index. index < length models)) (sym pushed) (below-pushed (length models) index items (test model) lt c.loop-index.invariant.2),
      omega arith,
      rw c.push_if.ensures.room c.loop-index.invariant.4,
    )

pub returns-clause-models : goal.returns-clause-models
returns-clause-models c =
    made-last (λ (ms : List Spec). filter (finishes c.args.active.now.tree c.args.standing.now.list.marks c.args.tick) ms)
    c.args.active.now.tree.models c.loop-index.index (at_indices c.args.active.now.tree.models c.loop-index.indices.items) _ (omega arith) refl c.loop-index.invariant.1

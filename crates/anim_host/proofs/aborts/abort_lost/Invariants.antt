use Rattle.std.proofs.Common.{◌≡◌, ℕ, true, drop, filter, map}
use Rattle.run_rules.specs.declared.mark.Mark.TheVariants.{OfModel}
use Rattle.run_rules.specs.declared.mark.ModelMark.TheVariants.{Aborted}
use Rattle.run_rules.specs.Marks.{is_ended, is_lost, is_started}
use Rattle.host_tables.specs.States.{is_among}
use Rattle.anim_host.proofs.GrowLemmas.{Growing}
use Rattle.anim_host.proofs.aborts.abort_lost.Given as goal

abbrev pub invariant-loop-index : goal.invariant-loop-index
invariant-loop-index l =
    Growing (λ models. map (λ model. OfModel model.id (Aborted l.new.number)) (filter (is_lost l.new.tree l.fn.standing.list.marks) models))
    l.active.tree.models l.index l.fn.standing l.standing
    × ((id : ℕ) → is_among (drop l.index l.active.tree.models) id ≡ true
    → (is_started l.standing.list.marks id ≡ is_started l.fn.standing.list.marks id)
    × (is_ended l.standing.list.marks id ≡ is_ended l.fn.standing.list.marks id))

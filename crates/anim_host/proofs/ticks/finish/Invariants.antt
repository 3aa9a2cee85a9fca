use Rattle.std.proofs.Common.{◌≡◌, ℕ, true, map}
use Rattle.run_rules.specs.declared.mark.Mark.TheVariants.{OfModel}
use Rattle.run_rules.specs.declared.mark.ModelMark.TheVariants.{Finished}
use Rattle.run_rules.specs.Marks.{is_started}
use Rattle.anim_host.specs.Fits.{AreSettled}
use Rattle.host_tables.specs.CommitGroups.{at_indices}
use Rattle.anim_host.proofs.GrowLemmas.{Growing}
use Rattle.anim_host.proofs.ticks.finish.Given as goal

abbrev pub invariant-loop-position : goal.invariant-loop-position
invariant-loop-position l =
    Growing (λ indices. map (λ model. OfModel model.id (Finished l.tick)) (at_indices l.active.tree.models indices)) l.indices l.position l.fn.standing l.standing
    × ((id : ℕ) → is_started l.fn.standing.list.marks id ≡ true → is_started l.standing.list.marks id ≡ true)
    × AreSettled l.active.tree.models l.standing.list.marks

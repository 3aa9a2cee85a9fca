use Rattle.std.proofs.Common.{ℕ, arith, length-drop}
use Rattle.std.proofs.lemmas.List.{length-take}
use Rattle.anim_top.proofs.Moves.{Took-nothing, Took-then, take-+}
use Rattle.anim_top.proofs.outlet.write_all.Goals as goal

pub loop-count-init : goal.loop-count-init
loop-count-init g c = record { taken = Took-nothing _; within = omega arith; never_falls = omega arith }

pub loop-count-preserved : goal.loop-count-preserved
loop-count-preserved g c = record {
  taken = rw (take-+ c.args.text.now c.loop-count.count c.in_ok-count.field-0) (Took-then _ _ _ _ _ c.loop-count.invariant.taken c.in_ok-count.ensures.taken);
  within = omega (arith, c.in_ok-count.ensures.room, length-take {A = ℕ}, length-drop {A = ℕ});
  never_falls = omega (arith, c.loop-count.invariant.never_falls, c.in_ok-count.ensures.never_falls);
}

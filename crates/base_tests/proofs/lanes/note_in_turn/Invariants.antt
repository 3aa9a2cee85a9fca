use Rattle.std.proofs.Common.{◌≡◌}
use Rattle.anim_names.specs.declared.lane.Lane.TheVariants.{Main, Compositor}
use Rattle.base_tests.specs.Notes.{notes}
use Rattle.base_tests.proofs.lanes.note_in_turn.Given as goal

-- each lane has made as many sections
abbrev pub invariant-loop-made : goal.invariant-loop-made
invariant-loop-made g l = record {
  main : (l.main.lock ≡ l.initial.main.lock) × (l.main.lane ≡ Main) × (l.main.mine ≡ notes Main l.made);
  compositor : (l.compositor.lock ≡ l.initial.compositor.lock) × (l.compositor.lane ≡ Compositor) × (l.compositor.mine ≡ notes Compositor l.made);
}

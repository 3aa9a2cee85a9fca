use Rattle.lane_threads.proofs.CompositorSections.{known-may}
use Rattle.lane_threads.proofs.compositor_turns.make_activation.Goals as goal

pub activate-requires-clause-complete : goal.activate-requires-clause-complete
activate-requires-clause-complete g c = (known-may _ c.main-well.ensures.kept _ _ _ _ c.requires.knows c.requires.next).complete

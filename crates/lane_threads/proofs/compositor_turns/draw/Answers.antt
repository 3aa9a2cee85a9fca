use Rattle.lane_threads.proofs.CompositorSections.{known-may, known-tick}
use Rattle.lane_threads.proofs.compositor_turns.draw.Goals as goal

pub tick-requires-clause-complete : goal.tick-requires-clause-complete
tick-requires-clause-complete g c = (known-may _ c.main-well.ensures.kept _ _ _ _ c.requires.knows c.requires.next).complete

pub tick-requires-clause-later : goal.tick-requires-clause-later
tick-requires-clause-later g c = (known-tick _ c.main-well.ensures.kept _ _ _ _ c.requires.knows c.requires.next).later

pub tick-requires-clause-in_time : goal.tick-requires-clause-in_time
tick-requires-clause-in_time g c = (known-tick _ c.main-well.ensures.kept _ _ _ _ c.requires.knows c.requires.next).in_time

pub tick-requires-clause-locals : goal.tick-requires-clause-locals
tick-requires-clause-locals g c = (known-tick _ c.main-well.ensures.kept _ _ _ _ c.requires.knows c.requires.next).locals

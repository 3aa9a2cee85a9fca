use Rattle.lane_threads.proofs.MainSections.{few-commits, known-may}
use Rattle.lane_threads.proofs.main_turns.make_commit.Goals as goal

pub build-requires-clause-complete : goal.build-requires-clause-complete
build-requires-clause-complete g c = (known-may _ c.main-well.ensures.kept _ _ _ _ c.requires.knows c.requires.next).complete

pub build-requires-clause-commits : goal.build-requires-clause-commits
build-requires-clause-commits g c = few-commits _ c.main-well.ensures.kept _ _ _ c.requires.knows c.requires.next

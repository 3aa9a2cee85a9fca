use Rattle.lane_threads.proofs.MainLane.{knows-edit}
use Rattle.lane_threads.proofs.Outcomes.{on_ok}
use Rattle.lane_threads.proofs.MainSections.{known-may}
use Rattle.lane_threads.proofs.main_turns.edit_ahead.Goals as goal

pub make_edit-requires-clause-complete : goal.make_edit-requires-clause-complete
make_edit-requires-clause-complete g c = (known-may _ c.main-well.ensures.kept _ _ _ _ c.requires.knows c.requires.next).complete

pub make_edit-requires-clause-steps : goal.make_edit-requires-clause-steps
make_edit-requires-clause-steps g c = (known-may _ c.main-well.ensures.kept _ _ _ _ c.requires.knows c.requires.next).steps

pub make_edit-requires-clause-allowed : goal.make_edit-requires-clause-allowed
make_edit-requires-clause-allowed g c = (known-may _ c.main-well.ensures.kept _ _ _ _ c.requires.knows c.requires.next).allowed

pub returns-clause-knows : goal.returns-clause-knows
returns-clause-knows g c =
    on_ok _ (λ made. knows-edit _ _ _ _ _ _ c.requires.knows c.requires.next made) c.make_edit.ensures

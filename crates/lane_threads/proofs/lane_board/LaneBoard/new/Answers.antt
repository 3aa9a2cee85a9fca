use Rattle.lane_threads.proofs.Beginning.{kept-new}
use Rattle.lane_threads.proofs.lane_board.LaneBoard.new.Goals as goal

pub invariant_of-result : goal.invariant_of-result
invariant_of-result c =
    kept-new _ c.main-well.ensures.kept _ c.entry_count-kept.ensures.exchange c.requires.no_entry c.requires.entry_room c.requires.event_room

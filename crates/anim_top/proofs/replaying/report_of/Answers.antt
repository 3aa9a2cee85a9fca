use Rattle.anim_top.proofs.Beginning.{may_replay}
use Rattle.anim_top.proofs.replaying.report_of.Goals as goal

pub replay-requires : goal.replay-requires
replay-requires g c =
    may_replay _ c.main-well.ensures.kept _ _ _ c.in_ok-main.ensures c.in_ok-compositor.ensures
    c.in_ok-board.ensures.no_entry c.in_ok-board.ensures.entry_room c.in_ok-board.ensures.event_room

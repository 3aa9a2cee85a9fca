use Rattle.anim_top.proofs.Beginning.{may_replay}
use Rattle.top_tests.proofs.turns.in_turn_with.Goals as goal

pub in_turn-requires : goal.in_turn-requires
in_turn-requires g c =
    may_replay _ c.main-well.ensures.kept _ _ c.in_ok-board.board c.in_ok-main.ensures c.in_ok-compositor.ensures
    c.in_ok-board.ensures.no_entry c.in_ok-board.ensures.entry_room c.in_ok-board.ensures.event_room

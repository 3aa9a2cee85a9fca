use Rattle.std.proofs.Common.{sym}
use Rattle.frame_exchange.proofs.BoardLemmas.{board-sent}
use Rattle.frame_exchange.proofs.board.Board.send.Goals as goal

pub invariant_of-self : goal.invariant_of-self
invariant_of-self c = rw c.push_reserved.ensures.items
    (board-sent _ _ _ c.send_all.new.self c.args.events.now _ _ _ c.args.upto c.self.invariant
    c.send_all.ensures.events c.send_all.ensures.heard (rw (sym c.self.view_is) at c.requires.few))

use Rattle.std.proofs.Common.{sym}
use Rattle.frame_exchange.proofs.BoardLemmas.{board-published}
use Rattle.frame_exchange.proofs.board.Board.publish.Goals as goal

pub invariant_of-self : goal.invariant_of-self
invariant_of-self c = rw c.push_reserved.ensures.items
    (board-published _ _ c.args.commit.value _ _ _ _ c.args.upto c.self.invariant
    (rw c.self.invariant.of_main (rw (sym c.self.view_is) at c.requires.later)) (rw (sym c.self.view_is) at c.requires.next))

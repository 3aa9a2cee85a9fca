use Rattle.std.proofs.Common.{sym, ap}
use Rattle.frame_exchange.proofs.BoardLemmas.{board-drained}
use Rattle.frame_exchange.proofs.board.Board.drain.Goals as goal

pub invariant_of-self : goal.invariant_of-self
invariant_of-self c = rw c.push_reserved.ensures.items
    (board-drained _ _ _ c.take_new-count.new.self _ _ _ c.args.upto _ c.self.invariant
    (rw c.self.invariant.of_main (rw (sym c.self.view_is) at c.requires.later)) c.take_new-count.ensures.count
    (ap (λ queue. queue.events) c.take_new-count.ensures.left) (ap (λ queue. queue.heard) c.take_new-count.ensures.left))

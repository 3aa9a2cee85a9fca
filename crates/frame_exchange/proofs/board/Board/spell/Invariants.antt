use Rattle.std.proofs.Common.{◌≡◌, take}
use Rattle.frame_exchange.specs.Journals.{word_so_far}
use Rattle.frame_exchange.proofs.board.Board.spell.Given as goal

abbrev pub invariant-loop-entry : goal.invariant-loop-entry
invariant-loop-entry l = l.word ≡ word_so_far (take l.entry-index l.self.entries)

use Rattle.word_machine.proofs.Placing.{found-allows, place-follows, place-room}
use Rattle.word_machine.proofs.turns.turn_of_compositor.Goals as goal

pub place-requires-clause-follows : goal.place-requires-clause-follows
place-requires-clause-follows g c =
    place-follows _ _ _ c.pull.ensures.made (found-allows _ _ _ _ c.in-Pull.is c.requires.allows c.if-pull.true c.pull.ensures.found)

pub place-requires-clause-room : goal.place-requires-clause-room
place-requires-clause-room g c =
    place-room _ _ _ c.pull.ensures.made (found-allows _ _ _ _ c.in-Pull.is c.requires.allows c.if-pull.true c.pull.ensures.found)

use Rattle.std.proofs.Common.{take}
use Rattle.std.specs.Slice.Iter.{iter_rest}
use Rattle.word_machine.proofs.Letters.{IsAmid}
use Rattle.word_machine.proofs.replays.make_steps.Given as goal

abbrev pub invariant-loop-letter : goal.invariant-loop-letter
invariant-loop-letter g l =
    IsAmid l.script (take l.letter-index l.letter-items) (g.M.MainSteps.state l.main) (g.C.CompositorSteps.state l.compositor) l.board
    l.counts.items l.frames.items (iter_rest l.steps_of_main) (iter_rest l.steps_of_compositor)

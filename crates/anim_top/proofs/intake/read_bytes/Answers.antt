use Rattle.std.proofs.Common.{◌≤◌, ◌+◌, length, arith}
use Rattle.tree_commit.proofs.BookLemmas.{on_err}
use Rattle.anim_top.specs.Outside.{most_read}
use Rattle.anim_top.proofs.Moves.{HasGiven-then}
use Rattle.anim_top.proofs.intake.read_bytes.Goals as goal

pub returns-in_err-read_part-clause-lost : goal.returns-in_err-read_part-clause-lost
returns-in_err-read_part-clause-lost g c =
    let (part, short, lost) = c.in_err-read_part.ensures.lost in
    let room : length c.loop-bytes.bytes.items + c.min-room.result ≤ most_read = omega (arith, c.loop-bytes-test.true, c.min-room.ensures) in
    on_err _ (HasGiven-then _ _ _ c.loop-bytes.bytes.items part c.loop-bytes.invariant.given lost (omega (arith, short, room)))

-- The bytes went to the front of a part of `into`.
use Rattle.std.proofs.Common.{◌≤◌, ◌++◌, length, take, arith, append_assoc, length-take-le, ap}
use Rattle.edge_io.proofs.Parts.{rest_of_part}
use Rattle.edge_io.proofs.memory_source.MemorySourceSource.read.Goals as goal

pub returns-clause-into : goal.returns-clause-into
returns-clause-into c =
    let count = c.give.result in
    let room = c.min-room.result in
    let all = c.args.into.now in
    let fits : room ≤ length all = omega arith in
    let inside : count ≤ room = omega (arith, length-take-le room all fits) in
    rw (← c.self.view_is, c.give.ensures.into, append_assoc) (
    ap (λ l. take count c.self.inside.bytes ++ l) (rest_of_part count room all inside fits)
    )

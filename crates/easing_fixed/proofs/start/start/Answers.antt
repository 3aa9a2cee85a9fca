use Rattle.std.proofs.Common.{arith}
use Rattle.easing_fixed.proofs.Table.{across-intervals-size}
use Rattle.easing_fixed.proofs.start.start.Goals as goal

pub overflow_add-result : goal.overflow_add-result
overflow_add-result c =
    rw (c.from-x1.ensures, c.from-x2.ensures, c.from-rest.ensures, c.from-s.ensures)
    (omega (arith, across-intervals-size c.args.x1 c.args.x2 c.args.interval c.requires.first c.requires.second c.requires.within))

pub overflow_add-result-2 : goal.overflow_add-result-2
overflow_add-result-2 c =
    rw (c.from-x1.ensures, c.from-x2.ensures, c.from-end.ensures, c.from-rest.ensures, c.from-s.ensures)
    (omega (arith, across-intervals-size c.args.x1 c.args.x2 c.args.interval c.requires.first c.requires.second c.requires.within))

pub overflow_cast-result : goal.overflow_cast-result
overflow_cast-result c =
    rw (c.from-x1.ensures, c.from-x2.ensures, c.from-end.ensures, c.from-rest.ensures, c.from-s.ensures)
    (omega (arith, across-intervals-size c.args.x1 c.args.x2 c.args.interval c.requires.first c.requires.second c.requires.within))

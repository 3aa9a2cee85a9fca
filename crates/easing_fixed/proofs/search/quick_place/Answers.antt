use Rattle.std.proofs.Common.{◌≡◌, ◌+◌, ◌*◌, ◌<◌, subst, arith}
use Rattle.anim_names.specs.declared.progress.TheConstants.{ONE}
use Rattle.easing_fixed.specs.Cubics.{across, bound}
use Rattle.easing_fixed.specs.Starts.{stride}
use Rattle.easing_fixed.proofs.Places.{place-one}
use Rattle.easing_fixed.proofs.Table.{starts-at, not_past-stride, past-stride}
use Rattle.easing_fixed.proofs.search.quick_place.Goals as goal

pub returns-then-p-eq-ONE-clause-value : goal.returns-then-p-eq-ONE-clause-value
returns-then-p-eq-ONE-clause-value c = rw c.if-p-eq-ONE.true (place-one c.args.x1 c.args.x2 c.requires.first c.requires.second)

-- The table's first number is 0, and its last is more than any progress below ONE.
pub interval_of-interval-requires-clause-begun : goal.interval_of-interval-requires-clause-begun
interval_of-interval-requires-clause-begun c = rw c.requires.table (omega arith)

pub interval_of-interval-requires-clause-ended : goal.interval_of-interval-requires-clause-ended
interval_of-interval-requires-clause-ended c = rw c.requires.table (omega (arith, c.table_bound-bound.ensures.size))

-- What the table says of an interval's ends is true of their steps.
pub place_between-requires-clause-not_past : goal.place_between-requires-clause-not_past
place_between-requires-clause-not_past c =
    let here = starts-at c.args.x1 c.args.x2 c.interval_of-interval.result (omega arith) in
    let not_past = rw (c.requires.table, here, c.table_bound-bound.ensures.value) at c.interval_of-interval.ensures.not_past in
    not_past-stride c.args.x1 c.args.x2 c.args.p c.interval_of-interval.result (omega arith) not_past

pub place_between-requires-clause-past : goal.place_between-requires-clause-past
place_between-requires-clause-past c =
    let here = starts-at c.args.x1 c.args.x2 (c.interval_of-interval.result + 1) (omega arith) in
    let past = rw (c.requires.table, here, c.table_bound-bound.ensures.value) at c.interval_of-interval.ensures.past in
    let end : (c.interval_of-interval.result + 1) * stride ≡ c.interval_of-interval.result * stride + stride = omega arith in
    subst (λ s. bound c.args.p < across ONE c.args.x1 c.args.x2 s) end
    (past-stride c.args.x1 c.args.x2 c.args.p (c.interval_of-interval.result + 1) (omega arith) past)

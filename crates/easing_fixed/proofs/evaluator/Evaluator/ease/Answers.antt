use Rattle.std.proofs.Common.{◌≡◌, ◌*◌, ◌≤◌, unsigned_abs, arith}
use Rattle.std.proofs.lemmas.Int.{ints}
use Rattle.anim_names.specs.declared.progress.TheConstants.{ONE}
use Rattle.easing_fixed.specs.Easings.{eased}
use Rattle.easing_fixed.proofs.Sizes.{eased-size}
use Rattle.easing_fixed.proofs.evaluator.Evaluator.ease.Goals as goal

pub returns-clause-size : goal.returns-clause-size
returns-clause-size g c =
    let exact : c.answer.result ≡ eased c.args.easing.now c.args.p =
    c.self.invariant.1 c.args.easing c.args.p c.answer.result c.vouch.ensures c.requires c.answer.ensures in
    let size : unsigned_abs c.answer.result ≤ 10 * ONE = rw exact (eased-size c.args.easing.now c.args.p c.vouch.ensures c.requires) in
    omega (arith, ints, size)

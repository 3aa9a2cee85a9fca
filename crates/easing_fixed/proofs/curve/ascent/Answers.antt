-- No product passes 64 bits, and the parts are those of how far across the curve is.
use Rattle.std.proofs.Common.{◌≡◌, ℕ, ◌+◌, ◌-◌, ◌*◌, ◌≤◌, w64, Fits, arith}
use Rattle.std.proofs.Math.Nat.{mul-le-mul}
use Rattle.anim_names.specs.declared.progress.TheConstants.{ONE}
use Rattle.easing_fixed.specs.declared.TheConstants.{END}
use Rattle.easing_fixed.proofs.curve.ascent.Goals as goal

module _ (x1 x2 rest s : ℕ) (first : x1 ≤ END) (second : x2 ≤ END) (steps : rest + s ≡ ONE) where
  rest_within : rest ≤ ONE
  rest_within = omega arith

  triple_within : 3 * rest ≤ 3 * ONE
  triple_within = omega arith

  square_within : 3 * rest * rest ≤ 3 * ONE * ONE
  square_within = mul-le-mul triple_within rest_within

  first_within : 3 * rest * rest * x1 ≤ 3 * ONE * ONE * END
  first_within = mul-le-mul square_within first

  second_within : 3 * rest * x2 ≤ 3 * ONE * END
  second_within = mul-le-mul triple_within second

  last_within : s ≤ ONE
  last_within = omega arith

  sum_within : 3 * rest * x2 + s * END ≤ 4 * ONE * END
  sum_within = omega (arith, second_within)

  others_within : s * (3 * rest * x2 + s * END) ≤ ONE * (4 * ONE * END)
  others_within = mul-le-mul last_within sum_within

  first_fits : Fits w64 (3 * rest * rest * x1)
  first_fits = omega (arith, first_within)

  others_fit : Fits w64 (s * (3 * rest * x2 + s * END))
  others_fit = omega (arith, others_within)

  all_fit : Fits w64 (3 * rest * rest * x1 + s * (3 * rest * x2 + s * END))
  all_fit = omega (arith, first_within, others_within)

weights-with : (x1 x2 u s : ℕ) →
    s * (3 * u * u * x1 + s * (3 * u * x2 + s * END)) ≡ 3 * u * u * s * x1 + 3 * u * s * s * x2 + s * s * s * END
weights-with x1 x2 u s = omega arith

pub overflow_mul-result-3 : goal.overflow_mul-result-3
overflow_mul-result-3 c =
    rw (c.from-x1.ensures, c.from-rest.ensures)
    (first_fits c.args.x1 c.args.x2 c.args.rest c.args.s c.requires.first c.requires.second c.requires.steps)

pub overflow_mul-result-7 : goal.overflow_mul-result-7
overflow_mul-result-7 c =
    rw (c.from-x2.ensures, c.from-rest.ensures, c.from-s.ensures, c.from.ensures)
    (others_fit c.args.x1 c.args.x2 c.args.rest c.args.s c.requires.first c.requires.second c.requires.steps)

pub overflow_add-result-2 : goal.overflow_add-result-2
overflow_add-result-2 c =
    rw (c.from-x1.ensures, c.from-x2.ensures, c.from-rest.ensures, c.from-s.ensures, c.from.ensures)
    (all_fit c.args.x1 c.args.x2 c.args.rest c.args.s c.requires.first c.requires.second c.requires.steps)

pub returns : goal.returns
returns c =
    let rest : c.args.rest ≡ ONE - c.args.s = omega arith in
    rw (c.from-x1.ensures, c.from-x2.ensures, c.from-rest.ensures, c.from-s.ensures, c.from.ensures, rest)
    (weights-with c.args.x1 c.args.x2 (ONE - c.args.s) c.args.s)

use Rattle.std.proofs.Common.{arith}
use Rattle.curve_keys.proofs.Keys.{IsCurve-lasts}
use Rattle.curve_keys.proofs.curve.Curve.bent_time.Goals as goal

pub bend-requires : goal.bend-requires
bend-requires g c =
    let lasts = IsCurve-lasts g.V.Blend.is_value _ c.self.invariant.0 in
    let duration = c.self.invariant.1 in
    let within = rw (← c.self.view_is) at c.requires in
    record {
      within = omega arith;
      some = omega arith;
      short = omega arith;
    }

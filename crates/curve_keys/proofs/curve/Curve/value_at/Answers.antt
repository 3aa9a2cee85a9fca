use Rattle.std.proofs.Common.{◌<◌, ◌∙◌, ap, sym, arith, length, Some}
use Rattle.std.proofs.lemmas.Result.{IfOk-weaker}
use Rattle.curve_keys.specs.Curves.{curve_value}
use Rattle.curve_keys.proofs.Keys.{IsCurve-some, rest-short, value_at-begin, value_at-later}
use Rattle.curve_keys.proofs.curve.Curve.value_at.Goals as goal

pub returns-then-time-eq-BEGIN-clause-value : goal.returns-then-time-eq-BEGIN-clause-value
unfolding curve_value
returns-then-time-eq-BEGIN-clause-value g c =
    let some : 0 < length c.self.inside.keys.items = omega (arith, IsCurve-some g.V.Blend.is_value _ c.self.invariant.0) in
    let bent = rw (← c.self.view_is) at c.bent_time-time.ensures.value in
    let begin = value_at-begin g.V.Blend.blended c.self.inside.keys.items c.bent_time-time.result c.index.result.now some c.index.ensures c.if-time-eq-BEGIN.true in
    rw (← c.self.view_is, ← bent)
    (IfOk-weaker c.copy.result _ _ (λ value is. begin ∙ ap Some (sym is)) c.copy.ensures.value)

pub value_from-requires-clause-short : goal.value_from-requires-clause-short
value_from-requires-clause-short g c =
    rw c.deref.ensures.value (rest-short g.V.Blend.is_value c.self.inside.keys.items (omega (arith, IsCurve-some g.V.Blend.is_value _ c.self.invariant.0)) c.self.invariant.0.each)

pub returns-clause-value : goal.returns-clause-value
unfolding curve_value
returns-clause-value g c =
    let some : 0 < length c.self.inside.keys.items = omega (arith, IsCurve-some g.V.Blend.is_value _ c.self.invariant.0) in
    let bent = rw (← c.self.view_is) at c.bent_time-time.ensures.value in
    let not_begin = c.if-time-eq-BEGIN.false in
    let later = value_at-later g.V.Blend.blended c.self.inside.keys.items c.bent_time-time.result c.index-2.result.now some c.index-2.ensures (omega arith) in
    rw (← c.self.view_is, ← bent)
    (IfOk-weaker c.value_from.result _ _ (λ value is. later ∙ ap Some (sym (rw c.deref.ensures.value at is))) c.value_from.ensures.value)

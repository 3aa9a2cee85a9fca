use Rattle.std.proofs.Common.{◌≡◌, ◌≤◌, drop}
use Rattle.curve_keys.specs.Curves.{value_from}
use Rattle.curve_keys.proofs.curve.value_from.Given as goal

-- the time is not before this key, and the value is the one from this key on
abbrev pub invariant-loop-to : goal.invariant-loop-to
invariant-loop-to g l = (l.from.time ≤ l.time) × (value_from g.V.Blend.blended l.from (drop l.to-index l.keys) l.time ≡ value_from g.V.Blend.blended l.fn.first l.fn.keys l.fn.time)

use Rattle.std.proofs.Common.{ℕ, ◌<◌, get_or}
use Rattle.curve_keys.specs.Curves.{IsKey}
use Rattle.curve_keys.proofs.curve.vouch.Given as goal

-- each key so far is one
abbrev pub invariant-loop-key : goal.invariant-loop-key
invariant-loop-key g l = (k : ℕ) (d : _) → k < l.key-index → IsKey g.V.Blend.is_value (get_or l.keys k d)

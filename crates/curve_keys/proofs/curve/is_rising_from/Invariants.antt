use Rattle.std.proofs.Common.{◌≡◌, drop}
use Rattle.curve_keys.specs.Curves.{is_rising_from}
use Rattle.curve_keys.proofs.curve.is_rising_from.Given as goal

-- the keys rise if those that are left do
abbrev pub invariant-loop-key : goal.invariant-loop-key
invariant-loop-key g l = is_rising_from l.time (drop l.key-index l.keys) ≡ is_rising_from l.fn.first l.fn.keys

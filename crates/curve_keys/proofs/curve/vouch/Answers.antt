use Rattle.std.proofs.Common.{rules}
use Rattle.curve_keys.specs.Curves.{IsKey}
use Rattle.curve_keys.proofs.Keys.{each-more}
use Rattle.curve_keys.proofs.curve.vouch.Goals as goal

pub loop-key-preserved : goal.loop-key-preserved
loop-key-preserved g c =
    each-more (IsKey g.V.Blend.is_value) c.args.keys.now c.loop-key.key-index c.key-item.result c.loop-key.invariant c.key-item.is c.loop-key-test.true
    (record { time = search rules; easing = c.vouch.ensures; value = c.vouch-in-loop-key.ensures })

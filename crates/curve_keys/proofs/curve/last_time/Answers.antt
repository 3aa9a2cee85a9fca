use Rattle.std.proofs.Common.{◌-◌, length, sym, arith}
use Rattle.curve_keys.proofs.Keys.{last_time-at}
use Rattle.curve_keys.proofs.curve.last_time.Goals as goal

pub returns : goal.returns
returns g c =
    sym (last_time-at 0 c.args.keys.now (length c.args.keys.now - 1) c.index-keys-keys.result (omega arith))

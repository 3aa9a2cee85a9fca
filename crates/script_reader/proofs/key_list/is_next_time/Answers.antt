use Rattle.std.proofs.Common.{arith, length, ◌-◌}
use Rattle.script_reader.proofs.Keys.{is_next_time-at}
use Rattle.script_reader.proofs.key_list.is_next_time.Goals as goal

pub returns : goal.returns
returns g c = is_next_time-at c.args.keys.now (length c.args.keys.now - 1) c.args.time c.index-keys-count.result (omega arith)

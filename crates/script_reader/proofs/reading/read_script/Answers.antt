use Rattle.script_reader.proofs.Steps.{long_reading, given_spelled, given_refused}
use Rattle.script_reader.proofs.reading.read_script.Goals as goal

pub returns-then-bytes-gt-MOST_BYTES-clause-exact : goal.returns-then-bytes-gt-MOST_BYTES-clause-exact
returns-then-bytes-gt-MOST_BYTES-clause-exact c = long_reading c.args.bytes.now c.if-bytes-gt-MOST_BYTES.true

pub returns-clause-spelled : goal.returns-clause-spelled
returns-clause-spelled c = given_spelled c.args.bytes.now c.read_short.result c.read_short.ensures

pub returns-clause-refused : goal.returns-clause-refused
returns-clause-refused c = given_refused c.args.bytes.now c.read_short.result c.read_short.ensures

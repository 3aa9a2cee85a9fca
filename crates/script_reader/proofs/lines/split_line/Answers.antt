use Rattle.std.proofs.Common.{arith}
use Rattle.std.proofs.lemmas.Bool.Decides.{nat_tests}
use Rattle.script_reader.proofs.Cuts.{split_is}
use Rattle.script_reader.proofs.lines.split_line.Goals as goal

pub returns-clause-cases : goal.returns-clause-cases
returns-clause-cases c = split_is c.args.text.now c.line_end-end.result c.min-after.result (grind (arith, nat_tests)) c.line_end-end.ensures.index (omega arith)

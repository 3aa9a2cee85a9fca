use Rattle.std.proofs.Common.{◌∙◌}
use Rattle.script_reader.proofs.Cuts.{unwrap_or-position}
use Rattle.script_reader.proofs.lines.line_end.Goals as goal

pub returns-clause-index : goal.returns-clause-index
returns-clause-index c = c.unwrap_or.ensures ∙ (rw c.line_feed.ensures (unwrap_or-position c.args.text.now))

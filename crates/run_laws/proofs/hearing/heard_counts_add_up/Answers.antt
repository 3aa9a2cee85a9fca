use Rattle.run_laws.proofs.HearingLemmas.{counts_add_up}
use Rattle.run_laws.proofs.hearing.heard_counts_add_up.Goals as goal

pub returns : goal.returns
returns c = counts_add_up

use Rattle.run_laws.proofs.HearingLemmas.{heard_once}
use Rattle.run_laws.proofs.hearing.each_event_is_heard_once.Goals as goal

pub returns : goal.returns
returns c = heard_once

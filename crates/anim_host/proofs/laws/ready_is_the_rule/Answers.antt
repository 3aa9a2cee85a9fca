use Rattle.anim_host.proofs.TellLemmas.{row-ready}
use Rattle.anim_host.proofs.laws.ready_is_the_rule.Goals as goal

pub returns : goal.returns
returns c = λ table active pending marks group row presence blocked fit settled is.
    row-ready table active pending marks group presence blocked fit settled row is

-- Which event makes main drop a model, by the model's policy.
use Rattle.std.specs.Prelude.{Bool, true, false}
use Rattle.anim_names.specs.declared.event.AnimEvent.{AnimEvent}
use Rattle.anim_names.specs.declared.event.AnimEvent.TheVariants.{Started, Finished, Aborted}
use Rattle.anim_delegate.specs.declared.policy.Policy.{Policy}
use Rattle.anim_delegate.specs.declared.policy.Policy.TheVariants.{Auto, FinishedOnly, Manual}
use Rattle.anim_delegate.specs.declared.verdict.Verdict.{Verdict}
use Rattle.anim_delegate.specs.declared.verdict.Verdict.TheVariants.{Keep, Retire}

-- what main does with a model of this policy once it hears the event
abbrev pub verdict_on : Policy → AnimEvent → Verdict
verdict_on policy (Started model group at start) = Keep
verdict_on Auto (Finished model at) = Retire
verdict_on FinishedOnly (Finished model at) = Retire
verdict_on Manual (Finished model at) = Keep
verdict_on Auto (Aborted model commit) = Retire
verdict_on FinishedOnly (Aborted model commit) = Keep
verdict_on Manual (Aborted model commit) = Keep

-- main drops the model
abbrev pub is_retire : Verdict → Bool
is_retire Keep = false
is_retire Retire = true

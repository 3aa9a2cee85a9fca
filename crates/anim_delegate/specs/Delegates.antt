-- When a function may stand for the table. It is seen by what a call at a policy and an event asks and what it may
-- answer.
use Rattle.std.specs.Prelude.{◌≡◌}
use Rattle.std.specs.Borrow.{Bor}
use Rattle.anim_names.specs.declared.event.AnimEvent.{AnimEvent}
use Rattle.anim_delegate.specs.declared.policy.Policy.{Policy}
use Rattle.anim_delegate.specs.declared.verdict.Verdict.{Verdict}
use Rattle.anim_delegate.specs.Table.{verdict_on}

-- it may be called at every policy and event
abbrev pub MayAsk : (Policy → Bor AnimEvent → Type 0) → Type 0
MayAsk asks = (policy : Policy) (event : Bor AnimEvent) → asks policy event

-- and answers there what the table says
abbrev pub FollowsTable : (Policy → Bor AnimEvent → Verdict → Type 0) → Type 0
FollowsTable answers = (policy : Policy) (event : Bor AnimEvent) (verdict : Verdict) → answers policy event verdict → verdict ≡ verdict_on policy event.now

use Rattle.std.proofs.Common.{refl}
use Rattle.anim_top.proofs.answer.refusal.Goals as goal

pub returns-in_ok-text-in-Refused : goal.returns-in_ok-text-in-Refused
returns-in_ok-text-in-Refused c = rw c.in-Refused.is (refl, c.in_ok-text-in-Refused.ensures)

use Rattle.anim_top.proofs.Outcomes.{if_ok_so, refusal-answers}
use Rattle.anim_top.proofs.answer.run_bytes.Goals as goal

pub returns-in-Err : goal.returns-in-Err
returns-in-Err g c =
    if_ok_so _ (λ answer. refusal-answers _ _ _ _ _ c.in-Err.ensures.refused) c.refusal.ensures

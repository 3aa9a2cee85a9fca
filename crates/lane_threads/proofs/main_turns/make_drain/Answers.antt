use Rattle.std.proofs.Common.{[], ◌∷◌, ◌++◌, ap, ◌∙◌}
use Rattle.lane_threads.proofs.main_turns.make_drain.Goals as goal

pub returns-in-Ok-clause-knows : goal.returns-in-Ok-clause-knows
returns-in-Ok-clause-knows g c =
    c.drain-seat.ensures.drained.heard _ _ c.hear.ensures.heard
    (c.in-Ok.ensures.items ∙ ap (λ n. c.args.counts.now.items ++ n ∷ []) c.heard.ensures.value)

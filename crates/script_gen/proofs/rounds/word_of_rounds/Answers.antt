use Rattle.std.proofs.Common.{◌+◌, ◌-◌, ◌++◌, ap, ◌∙◌, arith}
use Rattle.script_gen.specs.Generated.{word_of_rounds}
use Rattle.script_gen.proofs.Lanes.{round_made, rest_made}
use Rattle.script_gen.proofs.rounds.word_of_rounds.Goals as goal

pub loop-round-preserved : goal.loop-round-preserved
loop-round-preserved c =
    let left = c.loop-round.left in
    let k = c.args.compositor - (c.loop-round._round + 1) in
    ap (λ word. word ++ word_of_rounds (left - c.min-steps.result) k) c.in_ok-push_round.ensures
    ∙ round_made c.loop-round.word.items left c.min-steps.result k (c.args.compositor - c.loop-round._round) c.min-steps.ensures (omega arith)
    ∙ c.loop-round.invariant

pub returns : goal.returns
returns c =
    c.in_ok-push_main.ensures
    ∙ rest_made c.loop-round.word.items c.loop-round.left (c.args.compositor - c.loop-round._round) (omega arith) ∙ c.loop-round.invariant

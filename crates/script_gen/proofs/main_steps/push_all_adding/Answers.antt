use Rattle.std.proofs.Common.{◌≡◌, ◌+◌, ◌-◌, ◌++◌, map, ap, ◌∙◌, arith}
use Rattle.std.specs.List.{flat_map, range_with_len}
use Rattle.run_rules.specs.Views.{step_of}
use Rattle.script_gen.specs.Generated.{adding_steps}
use Rattle.script_gen.proofs.Numbers.{one_more}
use Rattle.script_gen.proofs.main_steps.push_all_adding.Goals as goal

pub loop-i-preserved : goal.loop-i-preserved
loop-i-preserved c =
    let i = c.loop-i.i in
    c.in_ok-push_adding.ensures ∙ ap (λ steps. steps ++ adding_steps i) c.loop-i.invariant
    ∙ one_more adding_steps (map step_of c.args.steps.now.items) 1 (i - 1) (i + 1 - 1) i (omega arith) (omega arith)

pub returns : goal.returns
returns c =
    let all : c.loop-i.i - 1 ≡ c.args.n = omega arith in
    c.loop-i.invariant ∙ ap (λ k. map step_of c.args.steps.now.items ++ flat_map adding_steps (range_with_len 1 k)) all

pub returns-in_ok-push_adding : goal.returns-in_ok-push_adding
returns-in_ok-push_adding c =
    let i = c.loop-i.i in
    c.in_ok-push_adding.ensures ∙ ap (λ steps. steps ++ adding_steps i) c.loop-i.invariant
    ∙ one_more adding_steps (map step_of c.args.steps.now.items) 1 (i - 1) c.args.n i (omega arith) (omega arith)

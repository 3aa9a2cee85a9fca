use Rattle.std.proofs.Common.{[], ◌+◌, ◌++◌, ap, ◌∙◌, arith}
use Rattle.script_gen.specs.Generated.{ticking_steps}
use Rattle.script_gen.proofs.Numbers.{one_more}
use Rattle.script_gen.proofs.compositor_steps.compositor_steps.Goals as goal

pub loop-j-preserved : goal.loop-j-preserved
loop-j-preserved c =
    let j = c.loop-j.j in
    c.in_ok-push_ticking.ensures ∙ ap (λ steps. steps ++ ticking_steps j) c.loop-j.invariant
    ∙ one_more ticking_steps [] 0 j (j + 1) j (omega arith) (omega arith)

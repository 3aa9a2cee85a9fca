use Rattle.std.proofs.Common.{ap, sym, ◌∙◌}
use Rattle.host_tables.specs.CommitGroups.{at_indices}
use Rattle.anim_host.specs.Standing.{Stood}
use Rattle.anim_host.proofs.TellLemmas.{none-finish}
use Rattle.anim_host.proofs.finish.finishing.Goals as goal

pub gather-requires-clause-active : goal.gather-requires-clause-active
gather-requires-clause-active c = c.requires.active ∙ ap (λ (s : Stood). s.active) (sym c.some_finish.ensures.same)

pub gather-requires-clause-last : goal.gather-requires-clause-last
gather-requires-clause-last c = ap (λ (s : Stood). s.last_tick) c.some_finish.ensures.same ∙ c.requires.last

pub returns-else-some_finish-clause-models : goal.returns-else-some_finish-clause-models
returns-else-some_finish-clause-models c =
    ap (at_indices c.args.active.now.tree.models) c.requires.none
    ∙ sym (none-finish c.args.active.now.tree c.args.standing.now.list.marks c.args.tick (sym c.some_finish.ensures.finish ∙ c.if-some_finish.false))

pub returns-then-some_finish-clause-models : goal.returns-then-some_finish-clause-models
returns-then-some_finish-clause-models c = rw c.some_finish.ensures.same at c.gather.ensures.models

pub returns-then-some_finish-clause-same : goal.returns-then-some_finish-clause-same
returns-then-some_finish-clause-same c = c.gather.ensures.same ∙ c.some_finish.ensures.same

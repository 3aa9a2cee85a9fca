use Rattle.std.proofs.Common.{◌∙◌}
use Rattle.std.specs.Prelude.{option_map}
use Rattle.host_tables.proofs.ElementLemmas.{presence-in}
use Rattle.anim_host.proofs.standing.Standing.present.Goals as goal

pub returns : goal.returns
returns c =
    rw (← c.self.view_is)
    (c.present.ensures
    ∙ presence-in c.self.inside.elements c.self.inside.active.value (option_map (λ commit. commit.value) c.self.inside.pending) c.args.tree c.args.element
    c.self.invariant.of_elements)

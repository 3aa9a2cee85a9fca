use Rattle.std.proofs.Common.{ap, sym, ◌∙◌}
use Rattle.std.specs.Prelude.{option_map}
use Rattle.keyframe_effect.specs.Ready as effect
use Rattle.anim_host.proofs.TellLemmas.{none-ready, row-ready}
use Rattle.anim_host.proofs.standing.Standing.is_ready.Goals as goal

pub returns-in-None : goal.returns-in-None
returns-in-None c =
    rw (← c.self.view_is)
    (sym (none-ready c.self.inside.active.value.tree (option_map (λ commit. commit.value) c.self.inside.pending) c.self.inside.marks.marks c.args.group
    (sym (c.self.invariant.of_groups c.args.group) ∙ sym c.row.ensures ∙ c.in-None.is)))

pub returns-in-Some : goal.returns-in-Some
returns-in-Some c =
    let pending_has = rw (← c.self.view_is) at c.requires.pending in
    let settled = rw (← c.self.view_is) at c.requires.settled in
    rw (← c.self.view_is)
    (c.ready.ensures
    ∙ ap (effect.is_ready c.in-Some.row c.self.inside.elements) pending_has
    ∙ row-ready c.self.inside.elements c.self.inside.active.value (option_map (λ commit. commit.value) c.self.inside.pending) c.self.inside.marks.marks c.args.group
    c.self.invariant.of_elements c.self.invariant.of_blocks c.self.invariant.fits settled c.in-Some.row
    (sym (c.self.invariant.of_groups c.args.group) ∙ sym c.row.ensures ∙ c.in-Some.is))

use Rattle.std.proofs.Common.{◌∙◌, ap}
use Rattle.element_anims.specs.Rows.{is_blocked_by}
use Rattle.anim_host.proofs.standing.Standing.blocked_by.Goals as goal

pub returns : goal.returns
returns c =
    rw (← c.self.view_is) (λ group. ap (is_blocked_by group) c.blocked_by.ensures ∙ c.self.invariant.of_blocks group c.args.element c.args.property)

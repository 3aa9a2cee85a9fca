use Rattle.std.proofs.Common.{◌∙◌}
use Rattle.anim_host.proofs.standing.Standing.group_row.Goals as goal

pub returns : goal.returns
returns c = rw (← c.self.view_is) (c.row.ensures ∙ c.self.invariant.of_groups c.args.group)

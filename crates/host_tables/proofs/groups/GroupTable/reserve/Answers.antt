use Rattle.std.proofs.Common.{ap, ◌∙◌}
use Rattle.host_tables.specs.Groups.{Groups, group_at}
use Rattle.host_tables.proofs.groups.GroupTable.reserve.Goals as goal

pub returns-clause-rows : goal.returns-clause-rows
returns-clause-rows c = λ id. c.reserve.ensures.entries.2 id ∙ ap (λ (g : Groups). group_at g id) c.self.view_is

use Rattle.std.proofs.Common.{◌≡◌, drop}
use Rattle.std.specs.List.{fold}
use Rattle.anim_names.specs.declared.property.TheConstants.{PROPERTIES}
use Rattle.element_anims.specs.Rows.{freed, without_blocker}
use Rattle.element_anims.proofs.row.ElementRow.without_blocker.Given as goal

abbrev pub invariant-loop-index : goal.invariant-loop-index
invariant-loop-index l = fold (freed l.group) l.row (drop l.index PROPERTIES) ≡ without_blocker l.fn.self l.group

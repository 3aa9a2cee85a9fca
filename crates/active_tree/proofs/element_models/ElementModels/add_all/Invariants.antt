use Rattle.std.proofs.Common.{take}
use Rattle.active_tree.specs.ElementModels.{AreListsOf}
use Rattle.active_tree.proofs.element_models.ElementModels.add_all.Given as goal

abbrev pub invariant-loop-i : goal.invariant-loop-i
invariant-loop-i l = AreListsOf (take l.i l.commit.tree.models) l.self

use Rattle.std.proofs.Common.{map, sym, ap, ◌∙◌}
use Rattle.keyframe_model.specs.Views.{shared_value_of}
use Rattle.tree_commit.specs.Tables.{element_of}
use Rattle.tree_commit.specs.Trees.{set_own}
use Rattle.main_tree.proofs.TableEdits.{map-set_value}
use Rattle.main_tree.proofs.tree.change_own.Goals as goal

pub returns-in-Some : goal.returns-in-Some
returns-in-Some c =
    ap (map element_of) (c.get_mut.follows.holds _).0
    ∙ map-set_value c.args.id (λ look. set_own look (shared_value_of c.args.value)) c.in-Some.base.now _ c.args.elements.now.entries c.set_own.ensures (sym c.in-Some.ensures.value)

use Rattle.std.proofs.Common.{◌≡◌, drop}
use Rattle.anim_names.specs.declared.property.TheConstants.{PROPERTIES}
use Rattle.tree_commit.specs.Views.{look_of}
use Rattle.element_samples.proofs.SamplingLemmas.{shown_after}
use Rattle.active_tree.specs.Samples.{animated_by}
use Rattle.active_tree.proofs.sampling.show_list.Given as goal

abbrev pub invariant-loop-property : goal.invariant-loop-property
invariant-loop-property g l =
    let animated = animated_by l.fn.sampled.tree (g.S.StartTable.starts l.starts) l.time l.list in
    (l.sampled ≡ l.fn.sampled)
    × (shown_after animated (look_of l.shown) (drop l.property-index PROPERTIES) ≡ shown_after animated (look_of l.fn.shown) PROPERTIES)

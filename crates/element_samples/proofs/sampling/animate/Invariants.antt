use Rattle.std.proofs.Common.{◌≡◌, drop}
use Rattle.anim_names.specs.declared.property.TheConstants.{PROPERTIES}
use Rattle.run_rules.specs.Frames.{animated_value}
use Rattle.tree_commit.specs.Views.{look_of}
use Rattle.element_samples.proofs.SamplingLemmas.{shown_after}
use Rattle.element_samples.proofs.sampling.animate.Given as goal

abbrev pub invariant-loop-property : goal.invariant-loop-property
invariant-loop-property g l =
    let animated = animated_value l.commit.tree (g.S.StartTable.starts l.starts) l.time l.element in
    shown_after animated (look_of l.shown) (drop l.property-index PROPERTIES) ≡ shown_after animated (look_of l.base) PROPERTIES

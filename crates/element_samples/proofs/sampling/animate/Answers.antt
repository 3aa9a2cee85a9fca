use Rattle.std.proofs.Common.{◌∙◌, ap}
use Rattle.anim_names.specs.declared.property.Property.TheVariants.{Opacity}
use Rattle.anim_names.specs.declared.property.TheConstants.{PROPERTIES}
use Rattle.run_rules.specs.Frames.{animated_value, show}
use Rattle.tree_commit.specs.Views.{look_of}
use Rattle.element_samples.proofs.SamplingLemmas.{shown_after, shown-last, shown-next}
use Rattle.element_samples.proofs.sampling.animate.Goals as goal

pub loop-property-init : goal.loop-property-init
loop-property-init g c =
    ap (λ look. shown_after (animated_value c.args.commit.now.tree (g.S.StartTable.starts c.args.starts.now) c.args.time c.args.element) look PROPERTIES)
    c.in_ok-shown.ensures.cases

pub loop-property-preserved : goal.loop-property-preserved
loop-property-preserved g c =
    let animated = animated_value c.args.commit.now.tree (g.S.StartTable.starts c.args.starts.now) c.args.time c.args.element in
    shown-next animated (look_of c.loop-property.shown) (look_of c.show_on.new.shown) (shown_after animated (look_of c.args.base.now) PROPERTIES) PROPERTIES c.loop-property.property-index Opacity
    c.loop-property-test.true (c.in_ok-show_on.ensures ∙ ap (show (look_of c.loop-property.shown)) c.in_ok-latest.ensures) c.loop-property.invariant

pub returns : goal.returns
returns g c =
    let animated = animated_value c.args.commit.now.tree (g.S.StartTable.starts c.args.starts.now) c.args.time c.args.element in
    shown-last animated (look_of c.loop-property.shown) (shown_after animated (look_of c.args.base.now) PROPERTIES) PROPERTIES c.loop-property.property-index
    c.loop-property-test.false c.loop-property.invariant

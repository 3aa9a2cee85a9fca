use Rattle.std.proofs.Common.{IsTrue, All, ◌∙◌, sym, ap, subst}
use Rattle.std.specs.Prelude.{slice_index_or}
use Rattle.anim_names.specs.Lists.{IsAmong}
use Rattle.anim_names.specs.declared.property.Property.TheVariants.{Opacity}
use Rattle.anim_names.specs.declared.property.TheConstants.{PROPERTIES}
use Rattle.run_rules.specs.Frames.{show}
use Rattle.tree_commit.specs.Tables.{has_timeline}
use Rattle.tree_commit.specs.Trees.{Committed}
use Rattle.tree_commit.specs.Views.{look_of}
use Rattle.element_samples.specs.Samples.{value_in}
use Rattle.element_samples.proofs.SamplingLemmas.{shown_after, shown-last, shown-next}
use Rattle.active_tree.specs.Samples.{LocalTimesFitOf, animated_by, counts_of}
use Rattle.active_tree.proofs.sampling.show_list.Goals as goal

pub latest_of-requires-clause-there : goal.latest_of-requires-clause-there
latest_of-requires-clause-there g c =
    subst (λ (t : Committed). All (λ model. IsAmong model t.tree.models) c.args.list.now) (sym c.loop-property.invariant.0) c.requires.there

pub latest_of-requires-clause-timelines_there : goal.latest_of-requires-clause-timelines_there
latest_of-requires-clause-timelines_there g c =
    subst (λ (t : Committed). All (λ model. IsTrue (has_timeline t.tree model.timeline)) c.args.list.now) (sym c.loop-property.invariant.0) c.requires.timelines_there

pub latest_of-requires-clause-locals : goal.latest_of-requires-clause-locals
latest_of-requires-clause-locals g c =
    subst (λ (t : Committed). LocalTimesFitOf c.args.list.now t.tree (g.S.StartTable.starts c.args.starts.now) c.args.time) (sym c.loop-property.invariant.0) c.requires.locals

pub loop-property-preserved : goal.loop-property-preserved
loop-property-preserved g c =
    let so_far = c.loop-property.invariant in
    let starts = g.S.StartTable.starts c.args.starts.now in
    let animated = animated_by c.args.sampled.now.tree starts c.args.time c.args.list.now in
    let latest = c.in_ok-latest.ensures.latest ∙ ap (λ (t : Committed). counts_of t.tree starts c.args.time (slice_index_or PROPERTIES c.loop-property.property-index Opacity) c.args.list.now) so_far.0 in (
      c.latest_of.ensures.same ∙ so_far.0,
      shown-next animated (look_of c.loop-property.shown) (look_of c.show_on.new.shown) (shown_after animated (look_of c.args.shown.now) PROPERTIES) PROPERTIES c.loop-property.property-index Opacity
          c.loop-property-test.true (c.in_ok-show_on.ensures ∙ ap (λ best. show (look_of c.loop-property.shown) (value_in best)) latest) so_far.1,
    )

pub returns-clause-shown : goal.returns-clause-shown
returns-clause-shown g c =
    let animated = animated_by c.args.sampled.now.tree (g.S.StartTable.starts c.args.starts.now) c.args.time c.args.list.now in
    shown-last animated (look_of c.loop-property.shown) (shown_after animated (look_of c.args.shown.now) PROPERTIES) PROPERTIES c.loop-property.property-index
    c.loop-property-test.false c.loop-property.invariant.1

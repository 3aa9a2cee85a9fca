use Rattle.std.proofs.Common.{◌≡◌, ◌+◌, ℕ, List, Option, filter, map, length, ap, sym, subst, ◌∙◌, arith}
use Rattle.std.proofs.lemmas.List.{length-append, length-map}
use Rattle.keyframe_model.specs.Models.{Spec}
use Rattle.run_rules.specs.declared.mark.Mark.{Mark}
use Rattle.run_rules.specs.declared.mark.Mark.TheVariants.{OfModel}
use Rattle.run_rules.specs.declared.mark.ModelMark.TheVariants.{Finished}
use Rattle.anim_names.specs.Lists.{IsAmong}
use Rattle.run_rules.specs.Marks.{are_over, finish_marks, finishing_models, is_unfinished, marks_of_tick, start_marks}
use Rattle.tree_commit.specs.Trees.{Committed, groups_of}
use Rattle.tree_commit.proofs.Among.{among-filter}
use Rattle.anim_host.specs.Ticks.{finishes}
use Rattle.host_tables.specs.CommitGroups.{at_indices}
use Rattle.anim_host.specs.Standing.{Stood, with_new}
use Rattle.std.proofs.lemmas.Bool.{and_parts}
use Rattle.anim_host.proofs.GrowLemmas.{two-steps}
use Rattle.host_tables.proofs.CommitGroupsLemmas.{below-at, filter-fewer, length-indices}
use Rattle.host_tables.proofs.StateLemmas.{running-started}
use Rattle.anim_host.proofs.ticks.make_marks.Goals as goal

pub finish-requires-clause-started : goal.finish-requires-clause-started
finish-requires-clause-started c = λ (model : Spec) there.
    let tree = c.args.active.now.tree in
    let marks = c.args.standing.now.list.marks in
    let its = among-filter (finishes tree marks c.args.tick) model tree.models (subst (λ (ms : List Spec). IsAmong model ms) c.requires.models there) in
    running-started marks model.id (and_parts (is_unfinished marks model.id) (are_over tree marks c.args.tick model.group) its.1).0

pub finish-requires-clause-room : goal.finish-requires-clause-room
finish-requires-clause-room c =
    let tree = c.args.active.now.tree in
    let marks = c.args.standing.now.list.marks in
    let few = filter-fewer (finishes tree marks c.args.tick) tree.models in
    let many : length c.args.indices.now ≡ length (filter (finishes tree marks c.args.tick) tree.models) =
    sym (length-indices tree.models c.args.indices.now (λ j p found. below-at (length tree.models) c.args.indices.now j p c.requires.within found))
    ∙ ap (λ (ms : List Spec). length ms) c.requires.models in
    let room = c.requires.room in
    omega arith

pub start_groups-requires-clause-room : goal.start_groups-requires-clause-room
start_groups-requires-clause-room c =
    let tree = c.args.active.now.tree in
    let old = c.args.standing.now in
    let few = filter-fewer (finishes tree old.list.marks c.args.tick) tree.models in
    let many : length (at_indices tree.models c.args.indices.now) ≡ length (filter (finishes tree old.list.marks c.args.tick) tree.models) =
    ap (λ (ms : List Spec). length ms) c.requires.models in
    let longer : length c.finish.new.standing.list.marks ≡ length old.list.marks + length (at_indices tree.models c.args.indices.now) =
    ap (λ (s : Stood). length s.list.marks) c.finish.ensures.marks
    ∙ length-append old.list.marks (map (λ (m : Spec). OfModel m.id (Finished c.args.tick)) (at_indices tree.models c.args.indices.now))
    ∙ ap (λ (n : ℕ). length old.list.marks + n) (length-map (at_indices tree.models c.args.indices.now) (λ (m : Spec). OfModel m.id (Finished c.args.tick))) in
    let same : c.finish.new.standing.list.room ≡ old.list.room = ap (λ (s : Stood). s.list.room) c.finish.ensures.marks in
    let room = c.requires.room in
    omega arith

pub returns-clause-marks : goal.returns-clause-marks
unfolding marks_of_tick finish_marks
returns-clause-marks c =
    let tree = c.args.active.now.tree in
    let old = c.args.standing.now in
    let tick = c.args.tick in
    let models = finishing_models tree old.list.marks tick in
    two-steps old c.finish.new.standing c.start_groups.new.standing (map (λ (m : Spec). OfModel m.id (Finished tick)) models)
    (λ (pending : Option Committed) (marks : List Mark). start_marks tree pending marks tick (groups_of tree))
    (c.finish.ensures.marks ∙ ap (λ (ms : List Spec). with_new old (map (λ (m : Spec). OfModel m.id (Finished tick)) ms)) c.requires.models) c.start_groups.ensures.marks

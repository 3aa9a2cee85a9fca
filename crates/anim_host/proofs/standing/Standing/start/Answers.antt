use Rattle.std.proofs.Common.{◌≡◌, ◌≢◌, ℕ, ◌∷◌, [], ◌++◌, length, ap, refl, to_z-of_z, ◌∙◌, arith}
use Rattle.std.specs.Prelude.{option_map}
use Rattle.keyframe_model.specs.Models.{property_of}
use Rattle.run_rules.specs.declared.mark.Mark.TheVariants.{OfModel}
use Rattle.run_rules.specs.declared.mark.ModelMark.TheVariants.{Started}
use Rattle.host_tables.specs.MarkLists.{Marked, with_marks}
use Rattle.host_tables.specs.Groups.{group_at}
use Rattle.host_tables.specs.Rows.{advanced_row, marked_at, marked_row, row_at}
use Rattle.host_tables.specs.States.{models_of}
use Rattle.anim_host.specs.Fits.{begun_of}
use Rattle.anim_host.specs.Standing.{Stood, with_new}
use Rattle.anim_host.proofs.BlockLemmas.{free-or-own, start-blocks}
use Rattle.host_tables.proofs.ElementLemmas.{presence-same}
use Rattle.anim_host.proofs.FitLemmas.{fits-next, follows-more}
use Rattle.host_tables.proofs.MarkedLemmas.{row-marked-advanced}
use Rattle.anim_host.proofs.OverLemmas.{over-next}
use Rattle.anim_host.proofs.StandLemmas.{advanced-next, counted-can, counted-next}
use Rattle.host_tables.proofs.StateLemmas.{finishes-started}
use Rattle.anim_host.proofs.standing.Standing.start.Goals as goal

pub block-requires-clause-free : goal.block-requires-clause-free
block-requires-clause-free c =
    let free = rw (← c.self.view_is) at c.requires.free in
    rw (c.element.ensures, c.property.ensures, c.group-2.ensures)
    (free-or-own c.self.inside.elements c.self.inside.marks.marks c.args.model.now.group c.args.model.now.element (property_of c.args.model.now)
    c.self.invariant.of_blocks free)

pub advance-requires-2 : goal.advance-requires-2
advance-requires-2 c =
    let active = c.self.inside.active.value in
    let pending = option_map (λ commit. commit.value) c.self.inside.pending in
    let marks = c.self.inside.marks.marks in
    let model = c.args.model.now in
    let begun = begun_of model c.args.at c.args.start in
    let what = Started begun in
    let before = c.self.invariant in
    let is : c.begun.result ≡ begun = c.begun.ensures ∙ ap (begun_of model c.args.at) (to_z-of_z c.ranges.start) in
    let order = c.next_order-order.ensures in
    let there = rw (← c.self.view_is) at c.requires.there in
    let differ = rw c.deref.ensures at c.model_count.ensures.differ in
    rw c.group.ensures
    (counted-can (group_at c.self.inside.groups) active.tree.models (models_of pending) (row_at c.self.inside.rows) marks what model
    c.state-before.result c.advanced-after.result differ there before.finishes
    (finishes-started marks model.id what before.finishes (λ ends lives. cc)) before.of_rows
    (rw c.id-id.ensures.value at c.state-before.ensures) (rw (is, order) at c.advanced-after.ensures) before.of_groups
    _ (let count = rw c.deref.ensures at c.model_count.ensures.count in omega arith))

pub invariant_of-self : goal.invariant_of-self
invariant_of-self c =
    let active = c.self.inside.active.value in
    let pending = option_map (λ commit. commit.value) c.self.inside.pending in
    let marks = c.self.inside.marks.marks in
    let model = c.args.model.now in
    let begun = begun_of model c.args.at c.args.start in
    let what = Started begun in
    let before = c.self.invariant in
    let is : c.begun.result ≡ begun = c.begun.ensures ∙ ap (begun_of model c.args.at) (to_z-of_z c.ranges.start) in
    let more : c.push.new.self.marks ≡ marks ++ OfModel model.id what ∷ [] =
    ap (λ (m : Marked). m.marks) c.push.ensures ∙ (λ i. marks ++ OfModel (c.id-id.ensures.value i) (Started (is i)) ∷ []) in
    let order = c.next_order-order.ensures in
    let here : row_at c.advance.new.self model.id ≡ option_map (advanced_row what (length marks)) (row_at c.self.inside.rows model.id) =
    rw (c.id-id.ensures.value, is, order) at c.advance.ensures.here in
    let others : (id : ℕ) → id ≢ model.id → row_at c.advance.new.self id ≡ row_at c.self.inside.rows id = rw c.id-id.ensures.value at c.advance.ensures.others in
    let there = rw (← c.self.view_is) at c.requires.there in
    let alive = rw (← c.self.view_is) at c.requires.alive in
    let whole = rw (← c.self.view_is) at c.requires.whole in
    let free = rw (← c.self.view_is) at c.requires.free in
    let differ = rw c.deref.ensures at c.model_count.ensures.differ in
    rw more (record {
      of_rows =
          advanced-next (marked_at c.self.inside.rows) (marked_at c.advance.new.self) active.tree.models (models_of pending) marks model.id what
          before.of_rows before.finishes
          (ap (option_map marked_row) here ∙ row-marked-advanced (row_at c.self.inside.rows model.id) what (length marks))
          (λ id differ. ap (option_map marked_row) (others id differ));
      over =
          over-next (row_at c.self.inside.rows) (row_at c.advance.new.self) active.tree marks model.id what (length marks) c.self.inside.last_tick
          here others before.over;
      of_groups =
          counted-next (group_at c.self.inside.groups) active.tree.models (models_of pending) (row_at c.self.inside.rows) marks what model
          c.state-before.result c.advanced-after.result differ there before.finishes
          (finishes-started marks model.id what before.finishes (λ ends lives. cc)) before.of_rows
          (rw c.id-id.ensures.value at c.state-before.ensures) (rw (is, order) at c.advanced-after.ensures) before.of_groups
          (group_at c.advance-2.new.self) (rw c.group.ensures at c.advance-2.ensures.here) (rw c.group.ensures at c.advance-2.ensures.others);
      roomy = rw c.advance-2.ensures.room before.roomy;
      of_elements = presence-same c.self.inside.elements c.block.new.table active pending c.block.ensures.presence before.of_elements;
      of_blocks =
          start-blocks c.self.inside.elements c.block.new.table marks model.id begun
          before.of_blocks whole alive free (rw (c.element.ensures, c.property.ensures, c.group-2.ensures) at c.block.ensures);
      finishes = finishes-started marks model.id what before.finishes (λ ends lives. cc);
      fits = fits-next active.tree.models marks what model differ before.fits there (refl, refl, refl);
      follows = follows-more active.tree pending marks what model before.follows there (refl, refl, refl);
    })

pub next_order-order-requires : goal.next_order-order-requires
next_order-order-requires c = rw (← c.self.view_is) at c.requires.room

pub push-requires-clause-room : goal.push-requires-clause-room
push-requires-clause-room c = rw (← c.self.view_is) at c.requires.room

pub push-requires-clause-within : goal.push-requires-clause-within
push-requires-clause-within c =
    let model = c.args.model.now in
    let is : c.begun.result ≡ begun_of model c.args.at c.args.start = c.begun.ensures ∙ ap (begun_of model c.args.at) (to_z-of_z c.ranges.start) in
    rw is c.requires.within

pub returns : goal.returns
returns c =
    let model = c.args.model.now in
    let what = Started (begun_of model c.args.at c.args.start) in
    let is : c.begun.result ≡ begun_of model c.args.at c.args.start = c.begun.ensures ∙ ap (begun_of model c.args.at) (to_z-of_z c.ranges.start) in
    let stood : Stood = record {
      active = c.self.inside.active.value;
      pending = option_map (λ commit. commit.value) c.self.inside.pending;
      list = c.self.inside.marks;
      last_tick = c.self.inside.last_tick;
    } in
    ap (λ (list : Marked). record stood { list = list })
    (c.push.ensures ∙ (λ i. with_marks c.self.inside.marks (OfModel (c.id-id.ensures.value i) (Started (is i)) ∷ [])))
    ∙ ap (λ (s : Stood). with_new s (OfModel model.id what ∷ [])) c.self.view_is

use Rattle.std.proofs.Common.{◌≡◌, ◌∷◌, [], ◌++◌, length, Bool, true, false, not, ap, refl, ◌∙◌, arith}
use Rattle.std.specs.Prelude.{option_map}
use Rattle.run_rules.specs.declared.mark.Mark.TheVariants.{OfModel}
use Rattle.run_rules.specs.Marks.{is_group_unfinished}
use Rattle.host_tables.specs.MarkLists.{Marked}
use Rattle.host_tables.specs.Groups.{group_at}
use Rattle.host_tables.specs.Rows.{advanced_row, marked_at, marked_row, row_at}
use Rattle.host_tables.specs.States.{models_of}
use Rattle.anim_host.proofs.BlockLemmas.{end-frees, end-keeps, end-of}
use Rattle.host_tables.proofs.ElementLemmas.{presence-same}
use Rattle.anim_host.proofs.FitLemmas.{fits-next, follows-more}
use Rattle.host_tables.proofs.MarkedLemmas.{row-marked-advanced}
use Rattle.anim_host.proofs.OverLemmas.{over-next}
use Rattle.anim_host.proofs.StandLemmas.{advanced-next, counted-can, counted-next}
use Rattle.host_tables.proofs.StateLemmas.{finishes-started}
use Rattle.anim_host.proofs.standing.Standing.end.Goals as goal

by-test : {A : Type 0} (b : Bool) → (b ≡ true → A) → (b ≡ false → A) → A
by-test true one two = one refl
by-test false one two = two refl

pub advance-requires-2 : goal.advance-requires-2
advance-requires-2 c =
    let active = c.self.inside.active.value in
    let pending = option_map (λ commit. commit.value) c.self.inside.pending in
    let marks = c.self.inside.marks.marks in
    let model = c.args.model.now in
    let what = c.args.what.now in
    let before = c.self.invariant in
    let order = c.next_order-order.ensures in
    let there = rw (← c.self.view_is) at c.requires.there in
    let began = rw (← c.self.view_is) at c.requires.started in
    let differ = rw c.deref.ensures at c.model_count.ensures.differ in
    rw c.group.ensures
    (counted-can (group_at c.self.inside.groups) active.tree.models (models_of pending) (row_at c.self.inside.rows) marks what model
    c.state-before.result c.advanced-after.result differ there before.finishes
    (finishes-started marks model.id what before.finishes (λ ends. began)) before.of_rows
    (rw c.id-id.ensures.value at c.state-before.ensures) (rw order at c.advanced-after.ensures) before.of_groups
    _ (let count = rw c.deref.ensures at c.model_count.ensures.count in omega arith))

pub invariant_of-self : goal.invariant_of-self
invariant_of-self c =
    let active = c.self.inside.active.value in
    let pending = option_map (λ commit. commit.value) c.self.inside.pending in
    let marks = c.self.inside.marks.marks in
    let model = c.args.model.now in
    let what = c.args.what.now in
    let before = c.self.invariant in
    let more : c.push.new.self.marks ≡ marks ++ OfModel model.id what ∷ [] = ap (λ (m : Marked). m.marks) c.push.ensures ∙ ap (λ id. marks ++ OfModel id what ∷ []) c.id-id.ensures.value in
    let order = c.next_order-order.ensures in
    let here : row_at c.advance.new.self model.id ≡ option_map (advanced_row what (length marks)) (row_at c.self.inside.rows model.id) =
    rw (c.id-id.ensures.value, order) at c.advance.ensures.here in
    let others = rw c.id-id.ensures.value at c.advance.ensures.others in
    let there = rw (← c.self.view_is) at c.requires.there in
    let last : is_group_unfinished (marks ++ OfModel model.id what ∷ []) model.group ≡ not c.args.is_last = rw (← c.self.view_is) at c.requires.last in
    let began = rw (← c.self.view_is) at c.requires.started in
    let differ = rw c.deref.ensures at c.model_count.ensures.differ in
    rw more (record {
      of_rows =
          advanced-next (marked_at c.self.inside.rows) (marked_at c.advance.new.self) active.tree.models (models_of pending) marks model.id what
          before.of_rows before.finishes
          (ap (option_map marked_row) here ∙ row-marked-advanced (row_at c.self.inside.rows model.id) what (length marks))
          (λ id differ. ap (option_map marked_row) (others id differ));
      over =
          over-next (row_at c.self.inside.rows) (row_at c.advance.new.self) active.tree marks model.id what (length marks) c.self.inside.last_tick
          here others before.over;
      of_groups =
          counted-next (group_at c.self.inside.groups) active.tree.models (models_of pending) (row_at c.self.inside.rows) marks what model
          c.state-before.result c.advanced-after.result differ there before.finishes
          (finishes-started marks model.id what before.finishes (λ ends. began)) before.of_rows
          (rw c.id-id.ensures.value at c.state-before.ensures) (rw order at c.advanced-after.ensures) before.of_groups
          (group_at c.advance-2.new.self) (rw c.group.ensures at c.advance-2.ensures.here) (rw c.group.ensures at c.advance-2.ensures.others);
      roomy = rw c.advance-2.ensures.room before.roomy;
      of_elements = presence-same c.self.inside.elements c.unblock_if.new.elements active pending c.unblock_if.ensures.presence before.of_elements;
      of_blocks =
          by-test c.args.is_last
          (λ is.
          end-frees active.tree.models c.self.inside.elements c.unblock_if.new.elements marks what model before.fits there c.requires.ends
          (last ∙ ap not is) (rw (c.element.ensures, c.group-2.ensures) at (c.unblock_if.ensures.freed is)) before.of_blocks)
          (λ is.
          rw (c.unblock_if.ensures.kept is)
          (end-keeps active.tree.models c.self.inside.elements marks what model before.fits there c.requires.ends (last ∙ ap not is) before.of_blocks));
      finishes = finishes-started marks model.id what before.finishes (λ ends. began);
      fits = fits-next active.tree.models marks what model differ before.fits there (end-of what model c.requires.ends);
      follows = follows-more active.tree pending marks what model before.follows there (end-of what model c.requires.ends);
    })

use Rattle.std.proofs.Common.{◌≡◌, ◌≢◌, ℕ, ap, sym, ◌∙◌, inl, inr}
use Rattle.std.specs.Prelude.{option_map}
use Rattle.std.proofs.lemmas.Bool.Decides.{eqb_tells}
use Rattle.host_tables.specs.Rows.{done_row, marked_at, marked_row, row_at}
use Rattle.host_tables.proofs.MarkedLemmas.{row-marked-done}
use Rattle.anim_host.proofs.OverLemmas.{over-found}
use Rattle.anim_host.proofs.standing.Standing.mark_done.Goals as goal

pub invariant_of-self : goal.invariant_of-self
invariant_of-self c =
    let before = c.self.invariant in
    let active = c.self.inside.active.value in
    let marks = c.self.inside.marks.marks in
    let model = c.args.model.now in
    let old = c.self.inside.rows in
    let new = c.mark_done.new.self in
    let there = rw (← c.self.view_is) at c.requires.there in
    let over = rw (← c.self.view_is) at c.requires.over in
    let differ = rw c.deref.ensures at c.model_count.ensures.differ in
    let here : row_at new model.id ≡ option_map done_row (row_at old model.id) = rw c.id.ensures.value at c.mark_done.ensures.here in
    let others : (id : ℕ) → id ≢ model.id → row_at new id ≡ row_at old id = rw c.id.ensures.value at c.mark_done.ensures.others in
    let same : (id : ℕ) → marked_at new id ≡ marked_at old id = λ id.
    elim (eqb_tells id model.id) [
      | inl t ↦
          ap (marked_at new) t.1
          ∙ ap (option_map marked_row) here
          ∙ row-marked-done (row_at old model.id)
          ∙ ap (marked_at old) (sym t.1)
      | inr f ↦ ap (option_map marked_row) (others id f.1)
    ] in
    record {
      of_rows = λ id. same id ∙ before.of_rows id;
      over = over-found (row_at old) (row_at new) active.tree marks c.self.inside.last_tick model differ there over others before.over;
      of_groups = before.of_groups;
      roomy = before.roomy;
      of_elements = before.of_elements;
      of_blocks = before.of_blocks;
      finishes = before.finishes;
      fits = before.fits;
      follows = before.follows;
    }

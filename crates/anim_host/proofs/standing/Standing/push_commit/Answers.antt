use Rattle.std.proofs.Common.{◌≡◌, ◌≤◌, length, List, [], ℕ, None, Option, sym, ap, subst, ◌∙◌}
use Rattle.std.specs.Prelude.{option_map, IfSome}
use Rattle.tree_commit.specs.Trees.{Committed}
use Rattle.run_rules.specs.Follows.{Follows}
use Rattle.keyframe_model.specs.Models.{Spec}
use Rattle.host_tables.specs.Elements.{PresenceStands}
use Rattle.host_tables.specs.MarkLists.{Marked}
use Rattle.host_tables.specs.Rows.{marked_row, says_over}
use Rattle.host_tables.specs.States.{models_of, row_for}
use Rattle.host_tables.proofs.ElementLemmas.{blocks-same, presence-announced, presence-same}
use Rattle.host_tables.proofs.StateLemmas.{follows-waits}
use Rattle.anim_host.proofs.standing.Standing.push_commit.Goals as goal

pub invariant_of-self-in_err-reserve-2 : goal.invariant_of-self-in_err-reserve-2
invariant_of-self-in_err-reserve-2 c = record {
  of_rows = λ id. ap (option_map marked_row) (c.reserve.ensures.rows id) ∙ c.self.invariant.of_rows id;
  over = λ id says. c.self.invariant.over id (sym (ap says_over (c.reserve.ensures.rows id)) ∙ says);
  of_groups = λ g. c.reserve-2.ensures.rows g ∙ c.self.invariant.of_groups g;
  roomy = subst (λ (o : Option Committed). IfSome o (λ commit. length commit.tree.models ≤ c.reserve-2.new.self.room)) (sym (rw (← c.self.view_is) at c.requires.free)) tt;
  of_elements = c.self.invariant.of_elements;
  of_blocks = c.self.invariant.of_blocks;
  finishes = c.self.invariant.finishes;
  fits = c.self.invariant.fits;
  follows = c.self.invariant.follows;
}

pub invariant_of-self-in_err-reserve-3 : goal.invariant_of-self-in_err-reserve-3
invariant_of-self-in_err-reserve-3 c =
    let active = c.self.inside.active.value in
    let pending = option_map (λ commit. commit.value) c.self.inside.pending in
    record {
      of_rows = λ id. ap (option_map marked_row) (c.reserve.ensures.rows id) ∙ c.self.invariant.of_rows id;
      over = λ id says. c.self.invariant.over id (sym (ap says_over (c.reserve.ensures.rows id)) ∙ says);
      of_groups = λ g. c.reserve-2.ensures.rows g ∙ c.self.invariant.of_groups g;
      roomy = subst (λ (o : Option Committed). IfSome o (λ commit. length commit.tree.models ≤ c.reserve-2.new.self.room)) (sym (rw (← c.self.view_is) at c.requires.free)) tt;
      of_elements = presence-same c.self.inside.elements c.reserve-3.new.table active pending c.reserve-3.ensures.same.presence c.self.invariant.of_elements;
      of_blocks = blocks-same c.self.inside.elements c.reserve-3.new.table c.self.inside.marks.marks c.reserve-3.ensures.same.blocks c.self.invariant.of_blocks;
      finishes = c.self.invariant.finishes;
      fits = c.self.invariant.fits;
      follows = c.self.invariant.follows;
    }

pub invariant_of-self-in_err-reserve-4 : goal.invariant_of-self-in_err-reserve-4
invariant_of-self-in_err-reserve-4 c =
    let same : c.reserve-4.new.self.marks ≡ c.self.inside.marks.marks = ap (λ (m : Marked). m.marks) c.reserve-4.ensures.same in
    let active = c.self.inside.active.value in
    let pending = option_map (λ commit. commit.value) c.self.inside.pending in
    rw same (record {
      of_rows = λ id. ap (option_map marked_row) (c.reserve.ensures.rows id) ∙ c.self.invariant.of_rows id;
      over = λ id says. c.self.invariant.over id (sym (ap says_over (c.reserve.ensures.rows id)) ∙ says);
      of_groups = λ g. c.reserve-2.ensures.rows g ∙ c.self.invariant.of_groups g;
      roomy = subst (λ (o : Option Committed). IfSome o (λ commit. length commit.tree.models ≤ c.reserve-2.new.self.room)) (sym (rw (← c.self.view_is) at c.requires.free)) tt;
      of_elements = presence-same c.self.inside.elements c.reserve-3.new.table active pending c.reserve-3.ensures.same.presence c.self.invariant.of_elements;
      of_blocks = blocks-same c.self.inside.elements c.reserve-3.new.table c.self.inside.marks.marks c.reserve-3.ensures.same.blocks c.self.invariant.of_blocks;
      finishes = c.self.invariant.finishes;
      fits = c.self.invariant.fits;
      follows = c.self.invariant.follows;
    })

pub invariant_of-self-2 : goal.invariant_of-self-2
invariant_of-self-2 c =
    let same : c.reserve-4.new.self.marks ≡ c.self.inside.marks.marks = ap (λ (m : Marked). m.marks) c.reserve-4.ensures.same in
    let active = c.self.inside.active.value in
    let marks = c.self.inside.marks.marks in
    let commit = c.in_ok-commit.commit.value in
    let free : option_map (λ commit. commit.value) c.self.inside.pending ≡ None = rw (← c.self.view_is) at c.requires.free in
    let none : models_of (option_map (λ commit. commit.value) c.self.inside.pending) ≡ [] = ap models_of free in
    let given : Follows active.tree c.args.commit.now.value.tree marks = rw (← c.self.view_is) at c.requires.follows in
    let follows : Follows active.tree commit.tree marks = subst (λ (m : Committed). Follows active.tree m.tree marks) (sym c.in_ok-commit.ensures.cases) given in
    let shown = subst (λ (o : Option Committed). PresenceStands c.self.inside.elements active o) free c.self.invariant.of_elements in
    rw same (record {
      of_rows = λ id.
          c.join_pending.ensures.rows active.tree.models marks
          (λ (model : Spec) there gone. follows-waits active.tree commit.tree marks follows model (rw c.deref-5.ensures at there) gone)
          (λ (other : ℕ). ap (option_map marked_row) (c.reserve.ensures.rows other) ∙ c.self.invariant.of_rows other ∙ ap (λ (ms : List Spec). row_for active.tree.models ms marks other) none) id
          ∙ ap (λ (m : Committed). row_for active.tree.models m.tree.models marks id) c.deref-5.ensures;
      over = λ id says. c.self.invariant.over id (sym (ap says_over (c.reserve.ensures.rows id)) ∙ c.join_pending.ensures.over id says);
      of_groups = λ g. c.reserve-2.ensures.rows g ∙ c.self.invariant.of_groups g;
      roomy = rw (c.model_count-2.ensures.count, c.deref-2.ensures) at c.in_ok-reserve-2.ensures.room;
      of_elements =
          presence-announced c.reserve-3.new.table c.announce.new.table active commit (rw c.deref-6.ensures at c.announce.ensures)
          (presence-same c.self.inside.elements c.reserve-3.new.table active None c.reserve-3.ensures.same.presence shown);
      of_blocks =
          blocks-same c.reserve-3.new.table c.announce.new.table marks c.announce.ensures.blocks
          (blocks-same c.self.inside.elements c.reserve-3.new.table marks c.reserve-3.ensures.same.blocks c.self.invariant.of_blocks);
      finishes = c.self.invariant.finishes;
      fits = c.self.invariant.fits;
      follows = follows;
    })

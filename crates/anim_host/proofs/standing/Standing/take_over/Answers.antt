use Rattle.std.proofs.Common.{◌≡◌, [], ℕ, None, Some, Option, sym, ap, subst, ◌∙◌, ◌≤◌, length}
use Rattle.std.specs.Prelude.{option_map, IfSome}
use Rattle.std.proofs.lemmas.Option.{same_Some}
use Rattle.std.specs.declared.alloc.Global.{Global}
use Rattle.std.specs.declared.sync.Arc.{Arc}
use Rattle.tree_commit.specs.Trees.{Committed, has_element}
use Rattle.run_rules.specs.Follows.{Follows}
use Rattle.run_rules.specs.declared.mark.Mark.{Mark}
use Rattle.host_tables.specs.Elements.{PresenceStands}
use Rattle.anim_host.specs.Fits.{IsThereIfUnfinished}
use Rattle.host_tables.specs.Groups.{group_row_of}
use Rattle.host_tables.specs.Rows.{marked_at, row_at}
use Rattle.host_tables.specs.States.{models_of, row_for}
use Rattle.tree_commit.specs.Tables.{HasAllTimelines}
use Rattle.host_tables.proofs.ElementLemmas.{blocks-same}
use Rattle.anim_host.proofs.FitLemmas.{fits-over}
use Rattle.anim_host.proofs.OverLemmas.{over-taken}
use Rattle.anim_host.proofs.standing.Standing.take_over.Goals as goal

pub count_groups-requires : goal.count_groups-requires
count_groups-requires c =
    let is_pending : option_map (λ (a : Arc Committed Global). a.value) c.self.inside.pending ≡ Some c.in-Some.pending.value =
    ap (option_map (λ (a : Arc Committed Global). a.value)) (sym c.take.ensures.value ∙ c.in-Some.is) in
    record {
      room =
          rw c.deref-in-Some-3.ensures
          (subst (λ (o : Option Committed). IfSome o (λ commit. length commit.tree.models ≤ c.self.inside.groups.room)) is_pending c.self.invariant.roomy);
    }

pub invariant_of-self : goal.invariant_of-self
invariant_of-self c =
    let active = c.self.inside.active.value in
    let old = c.self.inside.pending in
    let new = c.in-Some.pending.value in
    let marks = c.self.inside.marks.marks in
    let before = c.self.invariant in
    let is_pending : option_map (λ (a : Arc Committed Global). a.value) old ≡ Some new =
    ap (option_map (λ (a : Arc Committed Global). a.value)) (sym c.take.ensures.value ∙ c.in-Some.is) in
    let none : option_map (λ (a : Arc Committed Global). a.value) c.take.new.self ≡ None =
    ap (option_map (λ (a : Arc Committed Global). a.value)) c.take.ensures.after in
    let given = rw (← c.self.view_is) at c.requires.pending in
    let same : new ≡ c.args.commit.now = same_Some new c.args.commit.now (sym is_pending ∙ given) in
    let follows : Follows active.tree new.tree marks = subst (λ (o : Option Committed). IfSome o (λ commit. Follows active.tree commit.tree marks)) is_pending before.follows in
    let shown : PresenceStands c.self.inside.elements active (Some new) = subst (λ (o : Option Committed). PresenceStands c.self.inside.elements active o) is_pending before.of_elements in
    let unfinished = rw (← c.self.view_is) at c.requires.unfinished in
    let all : HasAllTimelines active.tree = rw c.deref.ensures at c.model_count.ensures.timelines_there in
    let stand : (id : ℕ) → marked_at c.self.inside.rows id ≡ row_for active.tree.models new.tree.models marks id = λ (id : ℕ).
    before.of_rows id ∙ ap (λ (o : Option Committed). row_for active.tree.models (models_of o) marks id) is_pending in
    let entered : (id : ℕ) → marked_at c.enter_active.new.rows id ≡ row_for c.deref-in-Some-2.result.now.tree.models [] marks id =
    λ id. c.enter_active.ensures.rows marks
    (λ (other : ℕ).
    c.leave_active.ensures.rows new.tree.models marks
    (λ (one : ℕ).
    stand one
    ∙ ap (λ (m : Committed). row_for m.tree.models new.tree.models marks one) (sym c.deref-in-Some.ensures))
    other
    ∙ ap (λ (m : Committed). row_for [] m.tree.models marks other) (sym c.deref-in-Some-2.ensures))
    id in
    rw none (record {
      of_rows = λ id. entered id ∙ ap (λ (m : Committed). row_for m.tree.models [] marks id) c.deref-in-Some-2.ensures;
      of_groups = λ g.
          c.count_groups.ensures marks before.finishes
          (λ (id : ℕ).
          entered id
          ∙ ap (λ (m : Committed). row_for m.tree.models [] marks id) (c.deref-in-Some-2.ensures ∙ sym c.deref-in-Some-3.ensures))
          g
          ∙ ap (λ (m : Committed). group_row_of m.tree.models marks g) c.deref-in-Some-3.ensures;
      roomy = tt;
      over = λ id says.
          let was = c.leave_active.ensures.over id (c.enter_active.ensures.over id says) in
          over-taken (row_at c.self.inside.rows id) active.tree new.tree marks c.self.inside.last_tick id follows all (stand id) was (before.over id was);
      of_elements = record {
        of_active = λ e. c.swap.ensures.active e ∙ ap (λ (m : Committed). has_element m.tree e) c.deref-in-Some-5.ensures;
        of_pending = c.swap.ensures.pending;
      };
      of_blocks = blocks-same c.self.inside.elements c.swap.new.table marks c.swap.ensures.blocks before.of_blocks;
      finishes = before.finishes;
      fits =
          fits-over active.tree new.tree marks follows before.fits
          (λ (mark : Mark) there. subst (λ (m : Committed). IsThereIfUnfinished m.tree.models marks mark) (sym same) (unfinished mark there));
      follows = tt;
    })

-- The groups in turn: what those before an index started, and then what the rest starts, is all.
use Rattle.std.proofs.Common.{◌≡◌, ℕ, ◌+◌, ◌≤◌, Bool, true, false, cond, List, [], ◌∷◌, ◌++◌, length, drop, map, Option, refl, sym, ap, ◌∙◌, append_assoc, arith}
use Rattle.std.proofs.lemmas.List.{append-nil, drop_all, length-append, length-map}
use Rattle.run_rules.specs.declared.mark.Mark.{Mark}
use Rattle.tree_commit.specs.Trees.{TreeLists, Committed, members_of}
use Rattle.run_rules.specs.Marks.{group_marks, is_ready, start_mark, start_marks}
use Rattle.host_tables.specs.MarkLists.{Marked, with_marks}
use Rattle.anim_host.specs.Ticks.{start_room}
use Rattle.anim_host.proofs.GrowLemmas.{with-marks}

pub record Starting (tree : TreeLists) (pending : Option Committed) (tick : ℕ) (groups : List ℕ) (index : ℕ) (old now : Marked) : Type 0 where
  pub made :
      now.marks ++ start_marks tree pending now.marks tick (drop index groups)
      ≡ old.marks ++ start_marks tree pending old.marks tick groups
  pub fits : length now.marks + (start_room tree (drop index groups) + length tree.models) ≤ old.room
  pub cleared : now.cleared ≡ old.cleared
  pub room : now.room ≡ old.room

started-if : (b : Bool) (tree : TreeLists) (tick group : ℕ)
    → length (cond b (map (start_mark tree tick) (members_of tree group)) []) ≤ length (members_of tree group)
started-if true tree tick group = omega (arith, length-map (members_of tree group) (start_mark tree tick))
started-if false tree tick group = omega arith

-- a group starts no more than its models
started-few : (tree : TreeLists) (pending : Option Committed) (marks : List Mark) (tick group : ℕ)
    → length (group_marks tree pending marks tick group) ≤ length (members_of tree group)
started-few tree pending marks tick group = started-if (is_ready tree pending marks group) tree tick group

start-first : (tree : TreeLists) (pending : Option Committed) (marks : List Mark) (tick group : ℕ) (groups : List ℕ)
    → start_marks tree pending marks tick (group ∷ groups)
    ≡ group_marks tree pending marks tick group
    ++ start_marks tree pending (marks ++ group_marks tree pending marks tick group) tick groups
unfolding start_marks
start-first tree pending marks tick group groups = refl

start-none : (tree : TreeLists) (pending : Option Committed) (marks : List Mark) (tick : ℕ) → start_marks tree pending marks tick [] ≡ []
unfolding start_marks
start-none tree pending marks tick = refl

-- one more group had its turn
pub starting-next : (tree : TreeLists) (pending : Option Committed) (tick : ℕ) (groups : List ℕ) (index : ℕ) (old now new : Marked) (group : ℕ)
    → drop index groups ≡ group ∷ drop (index + 1) groups
    → new ≡ with_marks now (group_marks tree pending now.marks tick group)
    → Starting tree pending tick groups index old now
    → Starting tree pending tick groups (index + 1) old new
starting-next tree pending tick groups index old now new group left is so_far =
    let is_new = group_marks tree pending now.marks tick group in
    let marks : new.marks ≡ now.marks ++ group_marks tree pending now.marks tick group = ap (λ (m : Marked). m.marks) is in
    let longer : length new.marks ≡ length now.marks + length (group_marks tree pending now.marks tick group) =
    ap (λ (m : List Mark). length m) marks ∙ length-append now.marks (group_marks tree pending now.marks tick group) in
    let few = started-few tree pending now.marks tick group in
    let rest : start_room tree (drop index groups) ≡ length (members_of tree group) + start_room tree (drop (index + 1) groups) =
    ap (start_room tree) left in
    let fits = so_far.fits in
    record {
      made =
          ap (λ (m : List Mark). m ++ start_marks tree pending m tick (drop (index + 1) groups)) marks
          ∙ append_assoc now.marks (group_marks tree pending now.marks tick group) (start_marks tree pending (now.marks ++ group_marks tree pending now.marks tick group) tick (drop (index + 1) groups))
          ∙ ap (λ (m : List Mark). now.marks ++ m) (sym (start-first tree pending now.marks tick group (drop (index + 1) groups)))
          ∙ ap (λ (l : List ℕ). now.marks ++ start_marks tree pending now.marks tick l) (sym left)
          ∙ so_far.made;
      fits = omega (arith, longer, few, rest, fits);
      cleared = ap (λ (m : Marked). m.cleared) is ∙ so_far.cleared;
      room = ap (λ (m : Marked). m.room) is ∙ so_far.room;
    }

-- all groups had their turn
pub starting-last : (tree : TreeLists) (pending : Option Committed) (tick : ℕ) (groups : List ℕ) (index : ℕ) (old now : Marked)
    → length groups ≤ index
    → Starting tree pending tick groups index old now
    → now ≡ with_marks old (start_marks tree pending old.marks tick groups)
starting-last tree pending tick groups index old now past so_far =
    let all : now.marks ≡ old.marks ++ start_marks tree pending old.marks tick groups =
    sym (append-nil now.marks)
    ∙ ap (λ (m : List Mark). now.marks ++ m) (sym (ap (λ (l : List ℕ). start_marks tree pending now.marks tick l) (drop_all index groups past) ∙ start-none tree pending now.marks tick))
    ∙ so_far.made in
    with-marks old now _ all so_far.cleared so_far.room

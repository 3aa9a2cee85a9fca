-- Loops over indices and ids that put marks behind the others.
use Rattle.std.proofs.Common.{◌≡◌, ℕ, ◌+◌, ◌≤◌, Bool, true, false, List, [], ◌∷◌, ◌++◌, length, map, drop, filter, Option, Some, refl, ap, ◌∙◌, arith, append_assoc, cond, subst, zero, suc}
use Rattle.std.specs.Prelude.{slice_get}
use Rattle.std.proofs.lemmas.List.{length-append}
use Rattle.std.proofs.lemmas.Option.{none-some, same_Some}
use Rattle.keyframe_model.specs.Models.{Spec}
use Rattle.tree_commit.specs.Trees.{Committed}
use Rattle.run_rules.specs.declared.mark.Mark.{Mark}
use Rattle.host_tables.specs.MarkLists.{Marked, mark_if, with_marks}
use Rattle.anim_host.specs.Standing.{Stood, with_new}
use Rattle.host_tables.proofs.LoopLemmas.{made-last, made-next}

marked : List Mark → ℕ → ℕ → Marked
marked marks cleared room = record { marks = marks; cleared = cleared; room = room }

-- other marks, and all else as it was
pub with-marks : (old now : Marked) (marks : List Mark) → now.marks ≡ marks → now.cleared ≡ old.cleared → now.room ≡ old.room
    → now ≡ record old { marks = marks }
unfolding marked
with-marks old now marks is cleared room =
    ap (λ (m : List Mark). marked m now.cleared now.room) is
    ∙ ap (λ (c : ℕ). marked marks c now.room) cleared
    ∙ ap (λ (r : ℕ). marked marks old.cleared r) room

stood : Committed → Option Committed → Marked → ℕ → Stood
stood active pending list tick = record { active = active; pending = pending; list = list; last_tick = tick }

-- other marks, and all else as it was
pub stood-same : (old now : Stood) (marks : List Mark)
    → now.active ≡ old.active → now.pending ≡ old.pending → now.list ≡ with_marks old.list marks → now.last_tick ≡ old.last_tick
    → now ≡ with_new old marks
unfolding stood
stood-same old now marks active pending list tick =
    ap (λ (a : Committed). stood a now.pending now.list now.last_tick) active
    ∙ ap (λ (p : Option Committed). stood old.active p now.list now.last_tick) pending
    ∙ ap (λ (l : Marked). stood old.active old.pending l now.last_tick) list
    ∙ ap (λ (t : ℕ). stood old.active old.pending (with_marks old.list marks) t) tick

-- The elements before the index had their turn, with one mark at most each: what is made, and what the rest gives, is all.
pub record Growing {X : Type 0} (F : List X → List Mark) (xs : List X) (index : ℕ) (old now : Stood) : Type 0 where
  pub made : now.list.marks ++ F (drop index xs) ≡ old.list.marks ++ F xs
  pub few : length now.list.marks ≤ length old.list.marks + index
  pub cleared : now.list.cleared ≡ old.list.cleared
  pub room : now.list.room ≡ old.list.room
  pub active : now.active ≡ old.active
  pub pending : now.pending ≡ old.pending
  pub tick : now.last_tick ≡ old.last_tick

pub growing-start : {X : Type 0} (F : List X → List Mark) (xs : List X) (old : Stood) → Growing F xs 0 old old
growing-start F xs old = record {
  made = refl;
  few = omega arith;
  cleared = refl;
  room = refl;
  active = refl;
  pending = refl;
  tick = refl;
}

pub growing-next : {X : Type 0} (F : List X → List Mark) (xs : List X) (index : ℕ) (old now new : Stood) (x : X) (step : List Mark)
    → slice_get xs index ≡ Some x
    → F (x ∷ drop (index + 1) xs) ≡ step ++ F (drop (index + 1) xs)
    → length step ≤ 1
    → new ≡ with_new now step
    → Growing F xs index old now
    → Growing F xs (index + 1) old new
growing-next F xs index old now new x step found gives one is so_far =
    let longer : length new.list.marks ≡ length now.list.marks + length step = ap (λ (s : Stood). length s.list.marks) is ∙ length-append now.list.marks step in
    let few = so_far.few in
    record {
      made = made-next F xs index x now.list.marks new.list.marks step _ found gives (ap (λ (s : Stood). s.list.marks) is) so_far.made;
      few = omega (arith, longer, one, few);
      cleared = ap (λ (s : Stood). s.list.cleared) is ∙ so_far.cleared;
      room = ap (λ (s : Stood). s.list.room) is ∙ so_far.room;
      active = ap (λ (s : Stood). s.active) is ∙ so_far.active;
      pending = ap (λ (s : Stood). s.pending) is ∙ so_far.pending;
      tick = ap (λ (s : Stood). s.last_tick) is ∙ so_far.tick;
    }

pub growing-last : {X : Type 0} (F : List X → List Mark) (xs : List X) (index : ℕ) (old now : Stood)
    → length xs ≤ index
    → F [] ≡ []
    → Growing F xs index old now
    → now ≡ with_new old (F xs)
growing-last F xs index old now past none so_far =
    stood-same old now (F xs) so_far.active so_far.pending
    (with-marks old.list now.list _ (made-last F xs index now.list.marks _ past none so_far.made) so_far.cleared so_far.room)
    so_far.tick

-- a mark for each model that a test lets through
pub gives-if : (test : Spec → Bool) (mark : Spec → Mark) (model : Spec) (models : List Spec) (b : Bool)
    → map mark (cond b (model ∷ filter test models) (filter test models)) ≡ mark_if b (mark model) ++ map mark (filter test models)
gives-if test mark model models true = refl
gives-if test mark model models false = refl

pub one-if : (b : Bool) (mark : Mark) → length (mark_if b mark) ≤ 1
one-if true mark = omega arith
one-if false mark = omega arith

-- marks, and then those that are worked out over them
pub two-steps : (old mid new : Stood) (first : List Mark) (then : Option Committed → List Mark → List Mark)
    → mid ≡ with_new old first
    → new ≡ with_new mid (then mid.pending mid.list.marks)
    → new ≡ with_new old (first ++ then old.pending (old.list.marks ++ first))
two-steps old mid new first then is_mid is_new =
    is_new
    ∙ ap (λ (s : Stood). with_new s (then s.pending s.list.marks)) is_mid
    ∙ ap (λ (l : List Mark). record old { list = record old.list { marks = l } })
    (append_assoc old.list.marks first (then old.pending (old.list.marks ++ first)))

-- what a test says of the models that it lets through is so of the ids of those
pub ids-tested : (P : ℕ → Type 0) (test : Spec → Bool) (models : List Spec) → ((m : Spec) → test m ≡ true → P m.id)
    → (j id : ℕ) → slice_get (map (λ m. m.id) (filter test models)) j ≡ Some id → P id
ids-tested P test [] so = λ j id found. absurd (none-some id found)
ids-tested P test (m ∷ models) so = either (test m) refl (ids-tested P test models so)
  where
    here : (rest : List ℕ) → test m ≡ true → ((j id : ℕ) → slice_get rest j ≡ Some id → P id)
        → (j id : ℕ) → slice_get (m.id ∷ rest) j ≡ Some id → P id
    here rest is others zero id found = subst P (same_Some m.id id found) (so m is)
    here rest is others (suc j) id found = others j id found

    either : (b : Bool) → test m ≡ b → ((j id : ℕ) → slice_get (map (λ m. m.id) (filter test models)) j ≡ Some id → P id)
        → (j id : ℕ) → slice_get (map (λ m. m.id) (cond b (m ∷ filter test models) (filter test models))) j ≡ Some id → P id
    either true is rest = here (map (λ m. m.id) (filter test models)) is rest
    either false is rest = rest

-- The commits that frames show, along a run.
use Rattle.std.proofs.Common.{◌≡◌, ℕ, ◌≤◌, Bool, true, false, ◌&&◌, nat_le, nat_lt, cond, Option, Some, None, List, [], ◌∷◌, ◌++◌, map, refl, subst, arith}
use Rattle.std.specs.Prelude.{IfSome, is_none}
use Rattle.std.specs.Cmp.Derive.{both_true}
use Rattle.std.proofs.lemmas.Bool.{leb-true, le-leb, ltb-true, and_parts}
use Rattle.std.proofs.lemmas.List.{map-append}
use Rattle.anim_names.specs.declared.lane.Lane.{Lane}
use Rattle.anim_names.specs.declared.lane.Lane.TheVariants.{Main, Compositor}
use Rattle.run_rules.specs.declared.compositor_step.CompositorStep.{CompositorStep}
use Rattle.run_rules.specs.declared.compositor_step.CompositorStep.TheVariants.{Pull, Activate, Tick}
use Rattle.run_rules.specs.Frames.{DrawnFrame, frame_at}
use Rattle.run_laws.specs.Shown.{CommitNumbersNeverFall}
use Rattle.run_rules.specs.Scripts.{ScriptLists, never_fall_from, are_at_most}
use Rattle.tree_commit.specs.Trees.{Committed}
use Rattle.run_rules.specs.Runs.{Lanes, CompositorLane, beginning, after_letter, after, after_activation, after_tick, compositor_step, compositor_makes, compositor_takes, newest_commit, report_of, closing_report}

-- ---- numbers in order

-- one more number behind, which is none below the others
never_fall_from-append : (least n : ℕ) (ns : List ℕ) → never_fall_from least ns ≡ true → are_at_most n ns ≡ true → least ≤ n → never_fall_from least (ns ++ n ∷ []) ≡ true
never_fall_from-append least n [] rising below first = both_true (le-leb least n first) refl
never_fall_from-append least n (m ∷ ns) rising below first =
    let rise = and_parts (nat_le least m) (never_fall_from m ns) rising in
    let bound = and_parts (nat_le m n) (are_at_most n ns) below in
    both_true rise.0 (never_fall_from-append m n ns rise.1 bound.1 (leb-true m n bound.0))

are_at_most-append : (n : ℕ) (ns : List ℕ) → are_at_most n ns ≡ true → are_at_most n (ns ++ n ∷ []) ≡ true
are_at_most-append n [] below = both_true (le-leb n n (omega arith)) refl
are_at_most-append n (m ∷ ns) below =
    let bound = and_parts (nat_le m n) (are_at_most n ns) below in
    both_true bound.0 (are_at_most-append n ns bound.1)

are_at_most-raised : (n larger : ℕ) (ns : List ℕ) → n ≤ larger → are_at_most n ns ≡ true → are_at_most larger ns ≡ true
are_at_most-raised n larger [] more below = refl
are_at_most-raised n larger (m ∷ ns) more below =
    let bound = and_parts (nat_le m n) (are_at_most n ns) below in
    both_true (le-leb m larger (omega (arith, leb-true m n bound.0))) (are_at_most-raised n larger ns more bound.1)

-- ---- what stays along a run

numbers : List DrawnFrame → List ℕ
numbers frames = map (λ frame. frame.commit) frames

-- The frames' numbers never fall and are not above the active commit's. That is not above the number pulled last, which
-- is the pending commit's.
record AreOrdered (lane : CompositorLane) : Type 0 where
  rising : never_fall_from 0 (map (λ frame. frame.commit) lane.frames) ≡ true
  shown : are_at_most lane.active.number (map (λ frame. frame.commit) lane.frames) ≡ true
  active : lane.active.number ≤ lane.pulled
  pending : IfSome lane.pending (λ commit. commit.number ≡ lane.pulled)

pull_keeps : (newest : Committed) (lane : CompositorLane) → AreOrdered lane → (taken : Bool) → (is_none lane.pending && nat_lt lane.pulled newest.number) ≡ taken → AreOrdered (cond taken (record lane { pulled = newest.number; pending = Some newest }) lane)
pull_keeps newest lane h true e =
    let both = and_parts (is_none lane.pending) (nat_lt lane.pulled newest.number) e in
    record { rising = h.rising; shown = h.shown; active = omega (arith, ltb-true lane.pulled newest.number both.1, h.active); pending = refl }
pull_keeps newest lane h false e = h

activation_keeps : (pending : Option Committed) (lane : CompositorLane) → lane.pending ≡ pending → AreOrdered lane → AreOrdered (after_activation pending lane)
activation_keeps None lane e h = h
activation_keeps (Some commit) lane e h =
    let P : Option Committed → Type 0 = λ p. IfSome p (λ c. c.number ≡ lane.pulled) in
    let same : commit.number ≡ lane.pulled = subst P e h.pending in
    record {
      rising = h.rising;
      shown = are_at_most-raised lane.active.number commit.number _ (omega (arith, same, h.active)) h.shown;
      active = omega (arith, same);
      pending = tt;
    }

tick_keeps : (time : ℕ) (lane : CompositorLane) → AreOrdered lane → AreOrdered (after_tick time lane)
unfolding frame_at
tick_keeps time lane h = record {
  rising = rw map-append (never_fall_from-append 0 lane.active.number _ h.rising h.shown (omega arith));
  shown = rw map-append (are_at_most-append lane.active.number _ h.shown);
  active = h.active;
  pending = h.pending;
}

makes_keeps : (commits : List Committed) (step : CompositorStep) (lane : CompositorLane) → AreOrdered lane → AreOrdered (compositor_makes commits step lane)
makes_keeps commits Pull lane h = pull_keeps (newest_commit commits) lane h _ refl
makes_keeps commits Activate lane h = activation_keeps lane.pending lane refl h
makes_keeps commits (Tick time) lane h = tick_keeps time lane h

takes_keeps : (commits : List Committed) (left : List CompositorStep) (lane : CompositorLane) → AreOrdered lane → AreOrdered (compositor_takes commits left lane)
takes_keeps commits [] lane h = h
takes_keeps commits (step ∷ left) lane h =
    makes_keeps commits step (record lane { left = left }) (record { rising = h.rising; shown = h.shown; active = h.active; pending = h.pending })

letter_keeps : (lanes : Lanes) (letter : Lane) → AreOrdered lanes.compositor → AreOrdered (after_letter lanes letter).compositor
unfolding compositor_step
letter_keeps lanes Main h = h
letter_keeps lanes Compositor h = takes_keeps lanes.main.commits lanes.compositor.left lanes.compositor h

word_keeps : (lanes : Lanes) (word : List Lane) → AreOrdered lanes.compositor → AreOrdered (after lanes word).compositor
unfolding after
word_keeps lanes [] h = h
word_keeps lanes (letter ∷ word) h = word_keeps (after_letter lanes letter) word (letter_keeps lanes letter h)

pub numbers_never_fall : (script : ScriptLists) (word : List Lane) → CommitNumbersNeverFall (report_of script word)
unfolding closing_report
numbers_never_fall script word =
    (word_keeps (beginning script) word (record { rising = refl; shown = refl; active = omega arith; pending = tt })).rising

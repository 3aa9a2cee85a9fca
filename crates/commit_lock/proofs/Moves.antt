-- Each atomic step of a section keeps the rule.
use Rattle.std.proofs.Common.{◌≡◌, ◌==◌, ℕ, arith, Bool, false, List, [], ◌∷◌, length, refl, sym, ap, ◌∙◌, subst, Option, Some, None, MatchBool, ◌⊎◌, ⊎_elim, inl, inr}
use Rattle.std.specs.Prelude.{slice_index, slice_set}
use Rattle.std.proofs.lemmas.List.{append-nil}
use mathlib.Core.Option.{some, none}
use lib.ListN.{get_elem?}
use prog.Atomic.{either}
use Rattle.atomic_table.specs.Table.{State, Me, Act, Valid, step, stepped, carried_after, put_back, keeps, takes, gives, Allows}
use Rattle.atomic_table.proofs.Lists.{set_again}
use Rattle.anim_names.specs.declared.lane.Lane.{Lane}
use Rattle.anim_names.specs.declared.lane.Lane.TheVariants.{Main, Compositor}
use Rattle.anim_names.specs.declared.entry.Entry.{Entry}
use Rattle.commit_lock.specs.declared.view.Stage.TheVariants.{Outside, HasTurn, HasValue}
use Rattle.commit_lock.specs.declared.view.Part.{Part}
use Rattle.commit_lock.specs.declared.view.View.{View}
use Rattle.commit_lock.specs.Journals.{entries_of, IsGrownBy}
use Rattle.anim_names.specs.Lists.{BeginsWith}
use Rattle.commit_lock.specs.Views.{other_lane, absent}
use Rattle.commit_lock.specs.Rules.{Turn, free, entered, out, number_of, turn_word, stage_of, FitsLane, FitsSlot, IsKept}
use Rattle.commit_lock.specs.Steps.{with_own, at_stage, having_counted, TakesTurn, TakesValue, Counts, PutsBack, EndsTurn}
use Rattle.commit_lock.proofs.Lanes.{begins_with_itself}
use Rattle.commit_lock.proofs.Keeps.{other_fits, knows, own_step, longest_kept, longest_own}
use Rattle.commit_lock.proofs.Turns.{entered_is, out_is, stage_of_entered, stage_of_out, other_outside_entered, other_outside_out}

-- nothing is added
same_journal : (lane : Lane) (journal : List Entry) → IsGrownBy lane journal journal
same_journal lane journal = record { added = []; grown = sym (append-nil journal); own = λ k d less. absurd (omega arith) }

-- where the turn is not free, word 0 is not 0
taken_word : (turn : Turn) → (turn ≡ free) ⊎ ((turn_word turn == 0) ≡ false)
taken_word free = inl refl
taken_word (entered Main) = inr refl
taken_word (entered Compositor) = inr refl
taken_word (out Main) = inr refl
taken_word (out Compositor) = inr refl

module _ {V : Type 0} (journal_of : V → List Entry) (subject_of : V → List ℕ) (subject : List ℕ) where
  abbrev pub Kept : State (Option V) View → Type 0
  Kept = IsKept journal_of subject_of subject

  abbrev value_in : V → List (ℕ × Option V) → V
  value_in d [] = d
  value_in d ((k, None) ∷ slots) = d
  value_in d ((k, Some value) ∷ slots) = value

  -- the part of the other lane, where this lane's turn begins or ends
  other_stays : (lane : Lane) (after : Turn) (s : State (Option V) View) (h : Kept s) → stage_of h.turn (other_lane lane) ≡ Outside → stage_of after (other_lane lane) ≡ Outside
      → FitsLane subject after h.journal (other_lane lane) (h.part (other_lane lane))
  other_stays lane after s h was is = other_fits subject lane h.turn after h.journal h.journal _ was is (same_journal lane h.journal) (h.lanes (other_lane lane))

  -- the turn is taken where it is free
  turn_taken : (table_seat : ℕ) (v : View) (number : ℕ) (slots : List (ℕ × Option V)) → number ≡ number_of v.lane → v.own.stage ≡ Outside → v.other ≡ absent
      → (s : State (Option V) View) (h : Kept s) → get_elem? s.views table_seat ≡ some v → h.turn ≡ free
      → Kept (stepped s 0 number table_seat slots (at_stage HasTurn v) keeps)
  turn_taken table_seat v number slots is stage alone s h at turn_is =
      let k = knows journal_of subject_of subject s h table_seat v at (λ e. absurd (cc (stage, e))) in
      let part : Part = record { stage = HasTurn; subject = v.own.subject; seen = v.own.seen; mine = v.own.mine } in
      own_step journal_of subject_of subject s h table_seat v k part (entered v.lane) h.journal (slice_set s.words 0 number) s.homes alone
      (rw (h.words, is) refl)
      (subst (λ (t : Turn). FitsSlot journal_of subject_of t subject h.journal s.homes) turn_is h.home)
      (record { subject_is = k.fits.subject_is; stage = sym (stage_of_entered v.lane); seen = k.fits.seen; mine = k.fits.mine; all = λ e. absurd cc })
      (other_stays v.lane (entered v.lane) s h (ap (λ (t : Turn). stage_of t (other_lane v.lane)) turn_is) (other_outside_entered v.lane))
      (longest_kept journal_of subject_of subject s h v part k.part_is refl)

  -- a step that changes nothing
  nothing_changed : (table_seat n : ℕ) (v : View) (slots : List (ℕ × Option V)) (s : State (Option V) View) → Kept s → get_elem? s.views table_seat ≡ some v → slice_set s.words 0 n ≡ s.words
      → Kept (stepped s 0 n table_seat slots v keeps)
  nothing_changed table_seat n v slots s h at words =
      subst (λ (x : List ℕ × List View). Kept (record { words = x.0; homes = s.homes; views = x.1 })) (λ i. (sym words i, sym (set_again s.views table_seat v at) i)) h

  pub takes_turn : (count table_seat : ℕ) (me : Me (Option V) View) (number : ℕ) → number ≡ number_of me.0.lane → me.0.own.stage ≡ Outside → me.0.other ≡ absent
      → Allows Kept count table_seat me 0 (λ n. either (n == 0) number n) (TakesTurn (step count 0 0 number none) me)
  takes_turn count table_seat me number is stage alone s h wide at small =
      let Moves : ℕ → Bool → Type 0 = λ n b. (w : View) × (a : Act (Option V)) × Valid s.homes me.1 a × Kept (stepped s 0 (either b number n) table_seat me.1 w a)
      × MatchBool b (◌≡◌ {A = Me (Option V) View} (w, carried_after me.1 a) (at_stage HasTurn me.0, me.1)) (◌≡◌ {A = Me (Option V) View} (w, carried_after me.1 a) me) in
      let found : slice_index s.words 0 ≡ turn_word h.turn = rw h.words refl in
      subst (λ (n : ℕ). Moves n (n == 0)) (sym found) (⊎_elim
      (λ (turn_is : h.turn ≡ free). subst (λ (t : Turn). Moves (turn_word t) (turn_word t == 0)) (sym turn_is) (at_stage HasTurn me.0, keeps, tt, turn_taken table_seat me.0 number me.1 is stage alone s h at turn_is, refl))
      (λ (no : (turn_word h.turn == 0) ≡ false). subst (Moves (turn_word h.turn)) (sym no) (me.0, keeps, tt, nothing_changed table_seat (turn_word h.turn) me.0 me.1 s h at (rw h.words refl), refl))
      (taken_word h.turn))

  pub takes_value : (count table_seat : ℕ) (me : Me (Option V) View) → me.0.own.stage ≡ HasTurn → me.0.other ≡ absent
      → Allows Kept count table_seat me 0 (λ n. n) (TakesValue journal_of subject_of (step count 0 0 0 none) me)
  takes_value count table_seat me stage alone s h wide at small =
      let v = me.0 in
      let k = knows journal_of subject_of subject s h table_seat v at (λ e. absurd (cc (stage, e))) in
      let turn_is : h.turn ≡ entered v.lane = entered_is h.turn v.lane (sym k.fits.stage ∙ stage) in
      let home = subst (λ (t : Turn). FitsSlot journal_of subject_of t subject h.journal s.homes) turn_is h.home in
      let value = home.0 in
      let part : Part = record { stage = HasValue; subject = v.own.subject; seen = journal_of value; mine = v.own.mine } in (
        with_own v part,
        takes 0 (Some value),
        ap (λ (hs : List _). get_elem? hs 0) home.1,
        own_step journal_of subject_of subject s h table_seat v k part (out v.lane) h.journal (slice_set s.words 0 (slice_index s.words 0)) (slice_set s.homes 0 none) alone
            (rw (h.words, turn_is) refl)
            (rw home.1 refl)
            (record { subject_is = k.fits.subject_is; stage = sym (stage_of_out v.lane); seen = begins_with_itself _ _ home.2; mine = k.fits.mine; all = λ e. home.2 })
            (other_stays v.lane (out v.lane) s h (ap (λ (t : Turn). stage_of t (other_lane v.lane)) turn_is ∙ other_outside_entered v.lane) (other_outside_out v.lane))
            (longest_own journal_of subject_of v part h.part h.journal home.2),
        (value, refl, home.3 ∙ sym k.fits.subject_is, subst (λ (l : List Entry). BeginsWith l v.own.seen) (sym home.2) k.fits.seen, ap (entries_of v.lane) home.2 ∙ k.fits.mine),
      )

  pub counts : (count table_seat : ℕ) (me : Me (Option V) View) (value : V) (number : ℕ) → me.1 ≡ (0, Some value) ∷ [] → number ≡ length (journal_of value)
      → me.0.own.stage ≡ HasValue → me.0.other ≡ absent → IsGrownBy me.0.lane me.0.own.seen (journal_of value)
      → Allows Kept count table_seat me 1 (λ _. number) (λ _. Counts journal_of (step count 1 number 0 none) me number)
  counts count table_seat me value number slots is stage alone grown s h wide at small =
      let v = me.0 in
      let k = knows journal_of subject_of subject s h table_seat v at (λ e. absurd (cc (stage, e))) in
      let turn_is : h.turn ≡ out v.lane = out_is h.turn v.lane (sym k.fits.stage ∙ stage) in
      let more : IsGrownBy v.lane h.journal (journal_of value) = subst (λ (l : List Entry). IsGrownBy v.lane l (journal_of value)) (k.fits.all stage) grown in
      let part : Part = record { stage = HasValue; subject = v.own.subject; seen = journal_of value; mine = entries_of v.lane (journal_of value) } in (
        with_own v part,
        keeps,
        tt,
        own_step journal_of subject_of subject s h table_seat v k part (out v.lane) (journal_of value) (slice_set s.words 1 number) s.homes alone
            (rw (h.words, is, turn_is) refl)
            (subst (λ (t : Turn). FitsSlot journal_of subject_of t subject h.journal s.homes) turn_is h.home)
            (record { subject_is = k.fits.subject_is; stage = sym (stage_of_out v.lane); seen = begins_with_itself _ _ refl; mine = refl; all = λ e. refl })
            (other_fits subject v.lane h.turn (out v.lane) h.journal (journal_of value) _ (ap (λ (t : Turn). stage_of t (other_lane v.lane)) turn_is ∙ other_outside_out v.lane) (other_outside_out v.lane) more (h.lanes (other_lane v.lane)))
            (longest_own journal_of subject_of v part h.part (journal_of value) refl),
        (λ x e. let same : value ≡ x = ap (λ (l : List (ℕ × Option V)). value_in value l) (sym slots ∙ e) in ap (λ (y : V). (having_counted (journal_of y) v, me.1)) same),
      )

  pub puts_back : (count table_seat : ℕ) (me : Me (Option V) View) (value : V) → me.1 ≡ (0, Some value) ∷ [] → journal_of value ≡ me.0.own.seen → subject_of value ≡ me.0.own.subject
      → me.0.own.stage ≡ HasValue → me.0.other ≡ absent
      → Allows Kept count table_seat me 0 (λ n. n) (PutsBack (step count 0 0 0 none) me)
  puts_back count table_seat me value slots journal_is subject_is stage alone s h wide at small =
      let v = me.0 in
      let k = knows journal_of subject_of subject s h table_seat v at (λ e. absurd (cc (stage, e))) in
      let turn_is : h.turn ≡ out v.lane = out_is h.turn v.lane (sym k.fits.stage ∙ stage) in
      let home = subst (λ (t : Turn). FitsSlot journal_of subject_of t subject h.journal s.homes) turn_is h.home in
      let part : Part = record { stage = HasTurn; subject = v.own.subject; seen = v.own.seen; mine = v.own.mine } in (
        with_own v part,
        gives,
        tt,
        own_step journal_of subject_of subject s h table_seat v k part (entered v.lane) h.journal (slice_set s.words 0 (slice_index s.words 0)) (put_back s.homes me.1) alone
            (rw (h.words, turn_is) refl)
            (value, rw (slots, home) refl, journal_is ∙ k.fits.all stage, subject_is ∙ k.fits.subject_is)
            (record { subject_is = k.fits.subject_is; stage = sym (stage_of_entered v.lane); seen = k.fits.seen; mine = k.fits.mine; all = λ e. absurd cc })
            (other_stays v.lane (entered v.lane) s h (ap (λ (t : Turn). stage_of t (other_lane v.lane)) turn_is ∙ other_outside_out v.lane) (other_outside_entered v.lane))
            (longest_kept journal_of subject_of subject s h v part k.part_is refl),
        refl,
      )

  pub ends_turn : (count table_seat : ℕ) (me : Me (Option V) View) → me.0.own.stage ≡ HasTurn → me.0.other ≡ absent
      → Allows Kept count table_seat me 0 (λ _. 0) (λ _. EndsTurn (step count 0 0 0 none) me 0)
  ends_turn count table_seat me stage alone s h wide at small =
      let v = me.0 in
      let k = knows journal_of subject_of subject s h table_seat v at (λ e. absurd (cc (stage, e))) in
      let turn_is : h.turn ≡ entered v.lane = entered_is h.turn v.lane (sym k.fits.stage ∙ stage) in
      let part : Part = record { stage = Outside; subject = v.own.subject; seen = v.own.seen; mine = v.own.mine } in (
        with_own v part,
        keeps,
        tt,
        own_step journal_of subject_of subject s h table_seat v k part free h.journal (slice_set s.words 0 0) s.homes alone
            (rw h.words refl)
            (subst (λ (t : Turn). FitsSlot journal_of subject_of t subject h.journal s.homes) turn_is h.home)
            (record { subject_is = k.fits.subject_is; stage = refl; seen = k.fits.seen; mine = k.fits.mine; all = λ e. absurd cc })
            (other_stays v.lane free s h (ap (λ (t : Turn). stage_of t (other_lane v.lane)) turn_is ∙ other_outside_entered v.lane) refl)
            (longest_kept journal_of subject_of subject s h v part k.part_is refl),
        refl,
      )

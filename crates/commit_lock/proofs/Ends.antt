-- How the rule begins, and how seats are cut apart and put together.
use Rattle.std.proofs.Common.{◌≡◌, ◌≢◌, ◌⊎◌, ⊎_elim, inl, inr, ℕ, zero, suc, List, [], ◌∷◌, ◌++◌, length, set, refl, sym, ap, ◌∙◌, subst, Option, Some}
use mathlib.Core.Option.{some, some-injective, some-ne-none}
use lib.ListN.{get_elem?}
use Rattle.atomic_table.specs.Table.{State, opening, Splits, Joins, Final, Seen}
use Rattle.atomic_table.proofs.Lists.{at_set}
use Rattle.anim_names.specs.declared.lane.Lane.{Lane}
use Rattle.anim_names.specs.declared.lane.Lane.TheVariants.{Main, Compositor}
use Rattle.anim_names.specs.declared.entry.Entry.{Entry}
use Rattle.commit_lock.specs.declared.view.Stage.TheVariants.{Absent, Outside}
use Rattle.commit_lock.specs.declared.view.Part.{Part}
use Rattle.commit_lock.specs.declared.view.View.{View}
use Rattle.commit_lock.specs.Journals.{entries_of}
use Rattle.anim_names.specs.Lists.{BeginsWith}
use Rattle.commit_lock.specs.Views.{other_lane, absent, fresh, part_of, first_view, own_half, other_half, whole, spent}
use Rattle.commit_lock.specs.Rules.{Turn, free, FitsLane, FitsSlot, FitsView, IsKept}
use Rattle.commit_lock.proofs.Lanes.{one_of_two}
use Rattle.commit_lock.proofs.Keeps.{put, put-same, put-before, part_of-own, part_of-other, fits_alone, knows}
use Rattle.commit_lock.proofs.Turns.{free_is}

-- what is at an index of a list with one more at its end
at_end : {A : Type 0} (l : List A) (a b : A) (j : ℕ) → get_elem? (l ++ a ∷ []) j ≡ some b → (get_elem? l j ≡ some b) ⊎ ((j ≡ length l) × (a ≡ b))
at_end [] a b zero e = inr (refl, some-injective a b e)
at_end [] a b (suc j) e = absurd (some-ne-none b (sym e))
at_end (x ∷ xs) a b zero e = inl e
at_end (x ∷ xs) a b (suc j) e = ⊎_elim (λ f. inl f) (λ t. inr (ap suc t.0, t.1)) (at_end xs a b j e)

-- a view that speaks for no lane
spent_is_absent : (lane : Lane) → (part_of spent lane).stage ≡ Absent
spent_is_absent Main = refl
spent_is_absent Compositor = refl

module _ {V : Type 0} (journal_of : V → List Entry) (subject_of : V → List ℕ) where
  -- what the value of a closed lock is, by what the two seats knew
  pub record Closes (main compositor : View) (value : V) : Type 0 where
    pub about : (subject_of value ≡ main.own.subject) × (subject_of value ≡ compositor.own.subject)
    pub seen : BeginsWith (journal_of value) main.own.seen × BeginsWith (journal_of value) compositor.own.seen
    pub mine : (entries_of Main (journal_of value) ≡ main.own.mine) × (entries_of Compositor (journal_of value) ≡ compositor.own.mine)

  pub begins : (value : V) → journal_of value ≡ []
      → IsKept journal_of subject_of (subject_of value) (opening (0 ∷ 0 ∷ []) (Some value ∷ []) (first_view (subject_of value)))
  begins value empty = record {
    turn = free;
    journal = [];
    seat = λ lane. 0;
    part = λ lane. fresh (subject_of value);
    words = refl;
    home = (value, refl, empty, refl);
    lanes = λ lane. record { subject_is = refl; stage = refl; seen = ([], refl); mine = refl; all = λ e. absurd cc };
    longest = (Main, refl);
    views = λ j u e. first j u e;
  }
    where
      first : (j : ℕ) (u : View) → get_elem? (first_view (subject_of value) ∷ []) j ≡ some u → FitsView (λ lane. 0) (λ lane. fresh (subject_of value)) j u
      first zero u e = subst (FitsView (λ lane. 0) (λ lane. fresh (subject_of value)) 0) (some-injective _ u e)
          (λ lane speaks. (
            refl,
            ⊎_elim
                (λ (own : lane ≡ Main). subst (λ (l : Lane). part_of (first_view (subject_of value)) l ≡ fresh (subject_of value)) (sym own) refl)
                (λ (other : lane ≡ Compositor). subst (λ (l : Lane). part_of (first_view (subject_of value)) l ≡ fresh (subject_of value)) (sym other) refl)
                (one_of_two Main lane),
          ))
      first (suc j) u e = absurd (some-ne-none u (sym e))

module _ {V : Type 0} (journal_of : V → List Entry) (subject_of : V → List ℕ) (subject : List ℕ) where
  abbrev Kept : State (Option V) View → Type 0
  Kept = IsKept journal_of subject_of subject

  -- what the rule says of the other lane, for which a seat speaks too
  speaks_for_other : (s : State (Option V) View) (h : Kept s) (table_seat : ℕ) (v : View) → get_elem? s.views table_seat ≡ some v → v.other.stage ≢ Absent
      → (table_seat ≡ h.seat (other_lane v.lane)) × (v.other ≡ h.part (other_lane v.lane))
  speaks_for_other s h table_seat v at speaks =
      let said = h.views table_seat v at (other_lane v.lane) (λ none. speaks (ap (λ (p : Part). p.stage) (sym (part_of-other v)) ∙ none)) in
      (said.0, sym (part_of-other v) ∙ said.1)

  -- a seat that speaks for both lanes is cut in two
  pub splits : (table_seat : ℕ) (v : View) → v.own.stage ≢ Absent → v.other.stage ≢ Absent → Splits Kept table_seat v (own_half v) (other_half v)
  splits table_seat v own other s h at =
      let k = knows journal_of subject_of subject s h table_seat v at own in
      let o = speaks_for_other s h table_seat v at other in
      let views = set s.views table_seat (own_half v) in
      let seat = put (other_lane v.lane) (length views) h.seat in
      let elsewhere : (j : ℕ) (u : View) → j ≢ table_seat → get_elem? s.views j ≡ some u → FitsView seat h.part j u =
      λ j u apart e lane speaks. let old = h.views j u e lane speaks in ⊎_elim
      (λ (is : lane ≡ v.lane). absurd (apart (old.0 ∙ (ap h.seat is ∙ sym k.place_is))))
      (λ (is : lane ≡ other_lane v.lane). absurd (apart (old.0 ∙ (ap h.seat is ∙ sym o.0))))
      (one_of_two v.lane lane) in record {
        turn = h.turn;
        journal = h.journal;
        seat = seat;
        part = h.part;
        words = h.words;
        home = h.home;
        lanes = h.lanes;
        longest = h.longest;
        views = λ j u e. ⊎_elim
            (λ (old : get_elem? views j ≡ some u). ⊎_elim
            (λ (x : (j ≡ table_seat) × (own_half v ≡ u)). subst (λ (y : ℕ × View). FitsView seat h.part y.0 y.1) (λ i. (sym x.0 i, x.1 i))
            (fits_alone seat h.part table_seat (own_half v) refl (k.place_is ∙ sym (put-before v.lane (length views) h.seat)) k.part_is))
            (λ (x : (j ≢ table_seat) × (get_elem? s.views j ≡ some u)). elsewhere j u x.0 x.1)
            (at_set s.views table_seat j (own_half v) u old))
            (λ (x : (j ≡ length views) × (other_half v ≡ u)). subst (λ (y : ℕ × View). FitsView seat h.part y.0 y.1) (λ i. (sym x.0 i, x.1 i))
            (fits_alone seat h.part (length views) (other_half v) refl (sym (put-same (other_lane v.lane) (length views) h.seat)) o.1))
            (at_end views (other_half v) u j e);
      }

  -- the seats of both lanes are put together
  pub joins : (table_seat : ℕ) (v : View) (other : ℕ) (w : View) → v.own.stage ≢ Absent → v.other ≡ absent → w.own.stage ≢ Absent → w.lane ≡ other_lane v.lane
      → Joins Kept table_seat v other w (whole v w) spent
  joins table_seat v other w own alone own' lane_is s h at two there =
      let k = knows journal_of subject_of subject s h table_seat v at own in
      let was : get_elem? s.views other ≡ some w = ⊎_elim (λ x. absurd (two x.0)) (λ x. x.1) (at_set s.views table_seat other (whole v w) w there) in
      let l = knows journal_of subject_of subject s h other w was own' in
      let seat = put (other_lane v.lane) table_seat h.seat in
      let both : FitsView seat h.part table_seat (whole v w) = λ lane speaks. ⊎_elim
      (λ (is : lane ≡ v.lane). subst (λ (x : Lane). (table_seat ≡ seat x) × (part_of (whole v w) x ≡ h.part x)) (sym is)
      (k.place_is ∙ sym (put-before v.lane table_seat h.seat), part_of-own (whole v w) ∙ k.part_is))
      (λ (is : lane ≡ other_lane v.lane). subst (λ (x : Lane). (table_seat ≡ seat x) × (part_of (whole v w) x ≡ h.part x)) (sym is)
      (sym (put-same (other_lane v.lane) table_seat h.seat), part_of-other (whole v w) ∙ (l.part_is ∙ ap h.part lane_is)))
      (one_of_two v.lane lane) in
      let elsewhere : (j : ℕ) (u : View) → j ≢ table_seat → j ≢ other → get_elem? s.views j ≡ some u → FitsView seat h.part j u =
      λ j u apart apart' e lane speaks. let old = h.views j u e lane speaks in ⊎_elim
      (λ (is : lane ≡ v.lane). absurd (apart (old.0 ∙ (ap h.seat is ∙ sym k.place_is))))
      (λ (is : lane ≡ other_lane v.lane). absurd (apart' (old.0 ∙ (ap h.seat (is ∙ sym lane_is) ∙ sym l.place_is))))
      (one_of_two v.lane lane) in record {
        turn = h.turn;
        journal = h.journal;
        seat = seat;
        part = h.part;
        words = h.words;
        home = h.home;
        lanes = h.lanes;
        longest = h.longest;
        views = λ j u e. ⊎_elim
            (λ (x : (j ≡ other) × (spent ≡ u)). subst (FitsView seat h.part j) x.1 (λ lane speaks. absurd (speaks (spent_is_absent lane))))
            (λ (x : (j ≢ other) × (get_elem? (set s.views table_seat (whole v w)) j ≡ some u)). ⊎_elim
            (λ (y : (j ≡ table_seat) × (whole v w ≡ u)). subst (λ (z : ℕ × View). FitsView seat h.part z.0 z.1) (λ i. (sym y.0 i, y.1 i)) both)
            (λ (y : (j ≢ table_seat) × (get_elem? s.views j ≡ some u)). elsewhere j u y.0 x.0 y.1)
            (at_set s.views table_seat j (whole v w) u x.1))
            (at_set (set s.views table_seat (whole v w)) other j spent u e);
      }

  pub closes : (table_seat : ℕ) (v main compositor : View) (words : List ℕ) (slots : List (Option V)) → v ≡ whole main compositor → main.lane ≡ Main
      → main.own.stage ≡ Outside → compositor.own.stage ≡ Outside
      → Final (Seen Kept table_seat v) words slots → (value : V) × (get_elem? slots 0 ≡ some (Some value)) × Closes journal_of subject_of main compositor value
  closes table_seat v main compositor words slots is lane_is stage stage' final =
      let own : v.own.stage ≡ Outside = ap (λ (u : View). u.own.stage) is ∙ stage in
      let other : v.other.stage ≡ Outside = ap (λ (u : View). u.other.stage) is ∙ stage' in
      let s = final.0 in
      let h = final.1.0 in
      let at = final.1.1 in
      let k = knows journal_of subject_of subject s h table_seat v at (λ e. absurd (cc (own, e))) in
      let o = speaks_for_other s h table_seat v at (λ e. absurd (cc (other, e))) in
      let theirs = subst (FitsLane subject h.turn h.journal (other_lane v.lane)) (sym o.1) (h.lanes (other_lane v.lane)) in
      let turn_is : h.turn ≡ free = free_is h.turn v.lane (sym k.fits.stage ∙ own) (sym theirs.stage ∙ other) in
      let home = subst (λ (t : Turn). FitsSlot journal_of subject_of t subject h.journal s.homes) turn_is h.home in
      let first : FitsLane subject h.turn h.journal Main main.own = subst (λ (x : Lane × Part). FitsLane subject h.turn h.journal x.0 x.1) (λ i. ((ap (λ (u : View). u.lane) is ∙ lane_is) i, (is i).own)) k.fits in
      let second : FitsLane subject h.turn h.journal Compositor compositor.own = subst (λ (x : Lane × Part). FitsLane subject h.turn h.journal x.0 x.1) (λ i. (other_lane ((ap (λ (u : View). u.lane) is ∙ lane_is) i), (is i).other)) theirs in (
        home.0,
        final.4 0 (Some home.0) (ap (λ (hs : List _). get_elem? hs 0) home.1),
        record {
          about = (home.3 ∙ sym first.subject_is, home.3 ∙ sym second.subject_is);
          seen = (subst (λ (l : List Entry). BeginsWith l main.own.seen) (sym home.2) first.seen, subst (λ (l : List Entry). BeginsWith l compositor.own.seen) (sym home.2) second.seen);
          mine = (ap (entries_of Main) home.2 ∙ first.mine, ap (entries_of Compositor) home.2 ∙ second.mine);
        },
      )

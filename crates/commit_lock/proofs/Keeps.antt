-- A step of the seat that may take the turn, in which its own part of the view changes, keeps the rule.
use Rattle.std.proofs.Common.{◌≡◌, ◌≢◌, ⊎_elim, ℕ, List, [], ◌∷◌, length, set, refl, sym, ap, ◌∙◌, subst, Option, if◌then◌else◌}
use mathlib.Core.Option.{some}
use lib.ListN.{get_elem?}
use Rattle.atomic_table.specs.Table.{State}
use Rattle.atomic_table.proofs.Lists.{at_set}
use Rattle.anim_names.specs.declared.lane.Lane.{Lane}
use Rattle.anim_names.specs.declared.lane.Lane.TheVariants.{Main, Compositor}
use Rattle.anim_names.specs.declared.entry.Entry.{Entry}
use Rattle.commit_lock.specs.declared.view.Stage.TheVariants.{Absent, Outside}
use Rattle.commit_lock.specs.declared.view.Part.{Part}
use Rattle.commit_lock.specs.declared.view.View.{View}
use Rattle.commit_lock.specs.Journals.{IsGrownBy}
use Rattle.anim_names.specs.Lanes.{is_lane}
use Rattle.commit_lock.specs.Views.{other_lane, absent, part_of}
use Rattle.commit_lock.specs.Rules.{Turn, turn_word, stage_of, FitsLane, FitsSlot, FitsView, IsKept}
use Rattle.commit_lock.specs.Steps.{with_own}
use Rattle.commit_lock.proofs.Lanes.{is_lane-self, is_lane-other_lane, one_of_two, entries_of_kept, begins_with_more}

-- the same of each lane, but of this one
pub put : {A : Type 0} → Lane → A → (Lane → A) → Lane → A
put lane a f any = if is_lane lane any then a else f any

pub put-same : {A : Type 0} (lane : Lane) (a : A) (f : Lane → A) → put lane a f lane ≡ a
unfolding put
put-same lane a f = rw (is_lane-self lane) refl

pub put-other_lane : {A : Type 0} (lane : Lane) (a : A) (f : Lane → A) → put lane a f (other_lane lane) ≡ f (other_lane lane)
unfolding put
put-other_lane lane a f = rw (is_lane-other_lane lane) refl

pub put-before : {A : Type 0} (lane : Lane) (a : A) (f : Lane → A) → put (other_lane lane) a f lane ≡ f lane
unfolding put
put-before Main a f = refl
put-before Compositor a f = refl

pub part_of-own : (v : View) → part_of v v.lane ≡ v.own
part_of-own v = rw (is_lane-self v.lane) refl

pub part_of-other : (v : View) → part_of v (other_lane v.lane) ≡ v.other
part_of-other v = rw (is_lane-other_lane v.lane) refl

-- The other lane has not the turn. Its seat's part still fits, whatever this lane adds to the journal
pub other_fits : (subject : List ℕ) (lane : Lane) (before after : Turn) (old new : List Entry) (part : Part)
    → stage_of before (other_lane lane) ≡ Outside → stage_of after (other_lane lane) ≡ Outside → IsGrownBy lane old new
    → FitsLane subject before old (other_lane lane) part → FitsLane subject after new (other_lane lane) part
other_fits subject lane before after old new part was is grown fits =
    let outside : part.stage ≡ Outside = fits.stage ∙ was in record {
      subject_is = fits.subject_is;
      stage = outside ∙ sym is;
      seen = begins_with_more part.seen old new grown.added grown.grown fits.seen;
      mine = entries_of_kept lane old new grown ∙ fits.mine;
      all = λ value. absurd (cc (outside, value));
    }

-- a seat that speaks for one lane alone
pub fits_alone : (seat : Lane → ℕ) (parts : Lane → Part) (table_seat : ℕ) (v : View)
    → v.other ≡ absent → table_seat ≡ seat v.lane → v.own ≡ parts v.lane → FitsView seat parts table_seat v
fits_alone seat parts table_seat v alone at known lane speaks =
    let P : Lane → Type 0 = λ l. (table_seat ≡ seat l) × (part_of v l ≡ parts l) in
    let N : Lane → Type 0 = λ l. (part_of v l).stage ≢ Absent in
    ⊎_elim
    (λ (own : lane ≡ v.lane). subst P (sym own) (at, part_of-own v ∙ known))
    (λ (other : lane ≡ other_lane v.lane). let n : N (other_lane v.lane) = subst N other speaks in absurd (n (ap (λ (p : Part). p.stage) (part_of-other v ∙ alone))))
    (one_of_two v.lane lane)

-- any other seat
fits_there : (seat : Lane → ℕ) (parts : Lane → Part) (table_seat : ℕ) (v : View) (part : Part) (j : ℕ) (u : View)
    → table_seat ≡ seat v.lane → j ≢ table_seat → FitsView seat parts j u → FitsView seat (put v.lane part parts) j u
fits_there seat parts table_seat v part j u at apart fits lane speaks =
    let old = fits lane speaks in
    ⊎_elim
    (λ (own : lane ≡ v.lane). absurd (apart (old.0 ∙ (ap seat own ∙ sym at))))
    (λ (other : lane ≡ other_lane v.lane).
    let same : put v.lane part parts lane ≡ parts lane = subst (λ (l : Lane). put v.lane part parts l ≡ parts l) (sym other) (put-other_lane v.lane part parts) in
    (old.0, old.1 ∙ sym same))
    (one_of_two v.lane lane)

module _ {V : Type 0} (journal_of : V → List Entry) (subject_of : V → List ℕ) where
  -- what the rule says of the seat of a lane
  pub record Knows (subject : List ℕ) (s : State (Option V) View) (h : IsKept journal_of subject_of subject s) (table_seat : ℕ) (v : View) : Type 0 where
    pub place_is : table_seat ≡ h.seat v.lane
    pub part_is : v.own ≡ h.part v.lane
    pub fits : FitsLane subject h.turn h.journal v.lane v.own

  pub knows : (subject : List ℕ) (s : State (Option V) View) (h : IsKept journal_of subject_of subject s) (table_seat : ℕ) (v : View)
      → get_elem? s.views table_seat ≡ some v → v.own.stage ≢ Absent → Knows subject s h table_seat v
  knows subject s h table_seat v at speaks =
      let said = h.views table_seat v at v.lane (λ none. speaks (ap (λ (p : Part). p.stage) (sym (part_of-own v)) ∙ none)) in
      let same : v.own ≡ h.part v.lane = sym (part_of-own v) ∙ said.1 in record {
        place_is = said.0;
        part_is = same;
        fits = subst (FitsLane subject h.turn h.journal v.lane) (sym same) (h.lanes v.lane);
      }

  -- after a step in which the seat's own part changes
  pub own_step : (subject : List ℕ) (s : State (Option V) View) (h : IsKept journal_of subject_of subject s) (table_seat : ℕ) (v : View) (k : Knows subject s h table_seat v)
      (part : Part) (turn : Turn) (journal : List Entry) (words : List ℕ) (homes : List _)
      → v.other ≡ absent
      → words ≡ turn_word turn ∷ length journal ∷ []
      → FitsSlot journal_of subject_of turn subject journal homes
      → FitsLane subject turn journal v.lane part
      → FitsLane subject turn journal (other_lane v.lane) (h.part (other_lane v.lane))
      → ((lane : Lane) × ((put v.lane part h.part lane).seen ≡ journal))
      → IsKept journal_of subject_of subject (record { words = words; homes = homes; views = set s.views table_seat (with_own v part) })
  own_step subject s h table_seat v k part turn journal words homes alone words' home' own other longest' = record {
    turn = turn;
    journal = journal;
    seat = h.seat;
    part = put v.lane part h.part;
    words = words';
    home = home';
    lanes = λ lane. ⊎_elim
        (λ (is : lane ≡ v.lane). subst (λ (l : Lane). FitsLane subject turn journal l (put v.lane part h.part l)) (sym is) (subst (FitsLane subject turn journal v.lane) (sym (put-same v.lane part h.part)) own))
        (λ (is : lane ≡ other_lane v.lane). subst (λ (l : Lane). FitsLane subject turn journal l (put v.lane part h.part l)) (sym is) (subst (FitsLane subject turn journal (other_lane v.lane)) (sym (put-other_lane v.lane part h.part)) other))
        (one_of_two v.lane lane);
    longest = longest';
    views = λ j u e. ⊎_elim
        (λ (x : (j ≡ table_seat) × (with_own v part ≡ u)). subst (λ (y : ℕ × View). FitsView h.seat (put v.lane part h.part) y.0 y.1) (λ i. (sym x.0 i, x.1 i)) (fits_alone h.seat (put v.lane part h.part) table_seat (with_own v part) alone k.place_is (sym (put-same v.lane part h.part))))
        (λ (x : (j ≢ table_seat) × (get_elem? s.views j ≡ some u)). fits_there h.seat h.part table_seat v part j u k.place_is x.0 (h.views j u x.1))
        (at_set s.views table_seat j (with_own v part) u e);
  }

  -- a lane that has seen all has seen all still, where this lane's part saw no less
  pub longest_kept : (subject : List ℕ) (s : State (Option V) View) (h : IsKept journal_of subject_of subject s) (v : View) (part : Part)
      → v.own ≡ h.part v.lane → part.seen ≡ v.own.seen → (lane : Lane) × ((put v.lane part h.part lane).seen ≡ h.journal)
  longest_kept subject s h v part same seen =
      let lane = h.longest.0 in
      let P : Lane → Type 0 = λ l. (put v.lane part h.part l).seen ≡ (h.part l).seen in
      let stays : P lane = ⊎_elim
      (λ (is : lane ≡ v.lane). subst P (sym is) (ap (λ (p : Part). p.seen) (put-same v.lane part h.part) ∙ (seen ∙ ap (λ (p : Part). p.seen) same)))
      (λ (is : lane ≡ other_lane v.lane). subst P (sym is) (ap (λ (p : Part). p.seen) (put-other_lane v.lane part h.part)))
      (one_of_two v.lane lane) in
      (lane, stays ∙ h.longest.1)

  -- or this lane has seen all
  pub longest_own : (v : View) (part : Part) (parts : Lane → Part) (journal : List Entry) → part.seen ≡ journal → (lane : Lane) × ((put v.lane part parts lane).seen ≡ journal)
  longest_own v part parts journal seen = (v.lane, ap (λ (p : Part). p.seen) (put-same v.lane part parts) ∙ seen)

-- What stays true along a run of a well-formed script.
use Rattle.std.proofs.Common.{◌≡◌, ℕ, ◌<◌, ◌≤◌, Bool, true, false, ◌&&◌, nat_lt, cond, Option, Some, None, List, [], ◌∷◌, ◌++◌, fold, refl, sym, ap, subst, inl, inr, arith, append_assoc}
use Rattle.std.specs.Prelude.{is_none, IfSome}
use Rattle.std.proofs.lemmas.Bool.{and_parts, ltb-true}
use Rattle.anim_names.specs.declared.lane.Lane.{Lane}
use Rattle.anim_names.specs.declared.lane.Lane.TheVariants.{Main, Compositor}
use Rattle.anim_names.specs.Lists.{BeginsWith, IsAmong}
use Rattle.run_rules.specs.declared.mark.Mark.{Mark}
use Rattle.run_rules.specs.declared.compositor_step.CompositorStep.{CompositorStep}
use Rattle.run_rules.specs.declared.compositor_step.CompositorStep.TheVariants.{Pull, Activate, Tick}
use Rattle.tree_commit.specs.Trees.{Committed, empty_commit, groups_of}
use Rattle.run_rules.specs.Marks.{finish_marks, marks_of_tick}
use Rattle.tree_commit.specs.Edits.{Book, new_book}
use Rattle.run_rules.specs.Scripts.{ScriptLists, StepOfMain, EditStep, CommitStep, DrainStep, IsWellFormed}
use Rattle.run_rules.specs.Runs.{Lanes, MainLane, CompositorLane, beginning, after_letter, after, main_step, main_takes, after_drain, newest_commit, with_pending, after_pull, after_activation, after_tick, compositor_takes, compositor_step}
use Rattle.tree_commit.proofs.Among.{among-append_left}
use Rattle.run_laws.proofs.Births.{Birth, births, AreOfOneScript, births_of_script}
use Rattle.run_laws.proofs.Lines.{FitsBirths, Precedes, AreOrdered, empty_fits, empty_precedes, ordered-precedes}
use Rattle.run_laws.proofs.MainLemmas.{MainFits}
use Rattle.run_laws.proofs.MainSteps.{book_after_next, main_fits_after}
use Rattle.run_laws.proofs.MarksFit.{MarksFitBirths, no_marks_fit}
use Rattle.run_laws.proofs.FinishFits.{finish_fits}
use Rattle.run_laws.proofs.ActivationFits.{abort_fits}
use Rattle.run_laws.proofs.StartFits.{starts_fit}
use Rattle.run_laws.proofs.WordLemmas.{goes_on_same}

-- ---- what stays

-- the pending commit is one of main's, of the number that was pulled last, and newer than the active one
abbrev pub IsPendingOf : List Committed → CompositorLane → Committed → Type 0
IsPendingOf commits lane commit = IsAmong commit commits × (commit.number ≡ lane.pulled) × (lane.active.number < commit.number)

pub record CompositorFits (born : List Birth) (commits : List Committed) (lane : CompositorLane) : Type 0 where
  pub active : IsAmong lane.active (empty_commit ∷ commits)
  pub behind : lane.active.number ≤ lane.pulled
  pub pending : IfSome lane.pending (IsPendingOf commits lane)
  pub marks : MarksFitBirths born lane.active lane.marks

pub record RunFits (script : ScriptLists) (lanes : Lanes) : Type 0 where
  pub book : Book
  pub main : MainFits (births 0 script.main) book lanes.main
  pub compositor : CompositorFits (births 0 script.main) lanes.main.commits lanes.compositor

-- ---- commits of a run

pub active_fits : (born : List Birth) (book : Book) (main : MainLane) (commit : Committed) → MainFits born book main → IsAmong commit (empty_commit ∷ main.commits) → FitsBirths born commit
active_fits born book main commit h (inl e) = subst (λ c. FitsBirths born c) (sym e) (empty_fits born)
active_fits born book main commit h (inr a) = h.fits commit a

pub history : (born : List Birth) (book : Book) (main : MainLane) → MainFits born book main → AreOrdered born (empty_commit ∷ main.commits)
history born book main h = (λ newer a. empty_precedes born newer (h.numbered newer a).0, h.ordered)

pub active_precedes : (born : List Birth) (book : Book) (main : MainLane) (lane : CompositorLane) (pending : Committed) → MainFits born book main → CompositorFits born main.commits lane → IsPendingOf main.commits lane pending → Precedes born lane.active pending
active_precedes born book main lane pending h i is =
    ordered-precedes born (empty_commit ∷ main.commits) (history born book main h) lane.active pending i.active (inr is.0) is.2

-- ---- a step of the compositor

last-among : (first : Committed) (commits : List Committed) → IsAmong (fold (λ older commit. commit) first commits) (first ∷ commits)
last-among first [] = inl refl
last-among first (commit ∷ commits) = inr (last-among commit commits)

pub newest-among : (commits : List Committed) (number : ℕ) → number < (newest_commit commits).number → IsAmong (newest_commit commits) commits
newest-among commits number later = go (last-among empty_commit commits)
  where
    go : IsAmong (newest_commit commits) (empty_commit ∷ commits) → IsAmong (newest_commit commits) commits
    go (inl e) = absurd (omega (arith, later, ap (λ c. c.number) e))
    go (inr a) = a

pull_fits : (born : List Birth) (commits : List Committed) (lane : CompositorLane) → CompositorFits born commits lane → CompositorFits born commits (after_pull (newest_commit commits) lane)
pull_fits born commits lane h = go (is_none lane.pending && nat_lt lane.pulled (newest_commit commits).number) refl
  where
    go : (taken : Bool) → (is_none lane.pending && nat_lt lane.pulled (newest_commit commits).number) ≡ taken → CompositorFits born commits (cond taken (with_pending (newest_commit commits) lane) lane)
    go true e =
        let later : lane.pulled < (newest_commit commits).number = ltb-true lane.pulled (newest_commit commits).number (and_parts (is_none lane.pending) _ e).1 in
        record {
          active = h.active;
          behind = omega (arith, h.behind, later);
          pending = (newest-among commits lane.pulled later, refl, omega (arith, h.behind, later));
          marks = h.marks;
        }
    go false e = h

activation_fits : (born : List Birth) (book : Book) (main : MainLane) (pending : Option Committed) (lane : CompositorLane) → lane.pending ≡ pending → AreOfOneScript born → MainFits born book main → CompositorFits born main.commits lane → CompositorFits born main.commits (after_activation pending lane)
activation_fits born book main None lane e script m h = h
activation_fits born book main (Some commit) lane e script m h =
    let is : IsPendingOf main.commits lane commit = subst (λ p. IfSome p (IsPendingOf main.commits lane)) e h.pending in
    record {
      active = inr is.0;
      behind = omega (arith, is.1);
      pending = tt;
      marks = abort_fits born lane.active commit lane.marks script (active_fits born book main lane.active m h.active) (m.fits commit is.0) (active_precedes born book main lane commit m h is) h.marks;
    }

tick_fits : (born : List Birth) (book : Book) (main : MainLane) (time : ℕ) (lane : CompositorLane) → AreOfOneScript born → MainFits born book main → CompositorFits born main.commits lane → CompositorFits born main.commits (after_tick time lane)
unfolding marks_of_tick
tick_fits born book main time lane script m h =
    let fits = active_fits born book main lane.active m h.active in
    let finished = finish_fits born lane.active lane.marks time script fits h.marks in
    let started = starts_fit born lane.active lane.pending time (groups_of lane.active.tree) (lane.marks ++ finish_marks lane.active.tree lane.marks time) script fits finished in
    record {
      active = h.active;
      behind = h.behind;
      pending = h.pending;
      marks = subst (λ marks. MarksFitBirths born lane.active marks) (append_assoc lane.marks (finish_marks lane.active.tree lane.marks time) _) started;
    }

left_fits : (born : List Birth) (commits : List Committed) (lane : CompositorLane) (left : List CompositorStep) → CompositorFits born commits lane → CompositorFits born commits (record lane { left = left })
left_fits born commits lane left h = record { active = h.active; behind = h.behind; pending = h.pending; marks = h.marks }

compositor_fits : (born : List Birth) (book : Book) (main : MainLane) (left : List CompositorStep) (lane : CompositorLane) → AreOfOneScript born → MainFits born book main → CompositorFits born main.commits lane → CompositorFits born main.commits (compositor_takes main.commits left lane)
compositor_fits born book main [] lane script m h = h
compositor_fits born book main (Pull ∷ left) lane script m h = pull_fits born main.commits (record lane { left = left }) (left_fits born main.commits lane left h)
compositor_fits born book main (Activate ∷ left) lane script m h = activation_fits born book main lane.pending (record lane { left = left }) refl script m (left_fits born main.commits lane left h)
compositor_fits born book main (Tick time ∷ left) lane script m h = tick_fits born book main time (record lane { left = left }) script m (left_fits born main.commits lane left h)

-- ---- commits only grow

takes_commits : (marks : List Mark) (left : List StepOfMain) (lane : MainLane) → BeginsWith (main_takes marks left lane).commits lane.commits
unfolding after_drain
takes_commits marks [] lane = goes_on_same lane.commits
takes_commits marks (EditStep change ∷ left) lane = goes_on_same lane.commits
takes_commits marks (CommitStep ∷ left) lane = (_ ∷ [], refl)
takes_commits marks (DrainStep ∷ left) lane = goes_on_same lane.commits

pub letter_commits : (lanes : Lanes) (letter : Lane) → BeginsWith (after_letter lanes letter).main.commits lanes.main.commits
unfolding main_step
letter_commits lanes Main = takes_commits lanes.compositor.marks lanes.main.left lanes.main
letter_commits lanes Compositor = goes_on_same lanes.main.commits

more_commits : (born : List Birth) (commits more : List Committed) (lane : CompositorLane) → CompositorFits born commits lane → CompositorFits born (commits ++ more) lane
more_commits born commits more lane h = record {
  active = among-append_left lane.active (empty_commit ∷ commits) more h.active;
  behind = h.behind;
  pending = go lane.pending h.pending;
  marks = h.marks;
}
  where
    go : (pending : Option Committed) → IfSome pending (IsPendingOf commits lane) → IfSome pending (IsPendingOf (commits ++ more) lane)
    go None is = tt
    go (Some commit) is = (among-append_left commit commits more is.0, is.1, is.2)

-- ---- any word

letter_fits : (script : ScriptLists) (lanes : Lanes) (letter : Lane) → AreOfOneScript (births 0 script.main) → RunFits script lanes → RunFits script (after_letter lanes letter)
unfolding main_step compositor_step
letter_fits script lanes Main one h =
    let grown = takes_commits lanes.compositor.marks lanes.main.left lanes.main in
    record {
      book = book_after_next h.book lanes.main.left;
      main = main_fits_after (births 0 script.main) h.book lanes.compositor.marks lanes.main.left lanes.main one refl h.main;
      compositor = subst (λ commits. CompositorFits (births 0 script.main) commits lanes.compositor) (sym grown.1) (more_commits (births 0 script.main) lanes.main.commits grown.0 lanes.compositor h.compositor);
    }
letter_fits script lanes Compositor one h = record {
  book = h.book;
  main = h.main;
  compositor = compositor_fits (births 0 script.main) h.book lanes.main lanes.compositor.left lanes.compositor one h.main h.compositor;
}

word_fits : (script : ScriptLists) (lanes : Lanes) (word : List Lane) → AreOfOneScript (births 0 script.main) → RunFits script lanes → RunFits script (after lanes word)
unfolding after
word_fits script lanes [] one h = h
word_fits script lanes (letter ∷ word) one h = word_fits script (after_letter lanes letter) word one (letter_fits script lanes letter one h)

pub one_script : (script : ScriptLists) → IsWellFormed script → AreOfOneScript (births 0 script.main)
one_script script h = births_of_script script.main h.edits

pub begins_main : (script : ScriptLists) → IsWellFormed script → MainFits (births 0 script.main) new_book (beginning script).main
begins_main script h = record {
  allowed = h.edits;
  to_come = λ b a. a;
  count = refl;
  commits_room = omega arith;
  together = record {
    elements = refl;
    timelines = refl;
    models = λ model a. absurd a;
    elements_added = omega arith;
    elements_room = omega arith;
    models_added = omega arith;
    models_room = omega arith;
    timelines_room = omega arith;
  };
  fits = λ commit a. absurd a;
  numbered = λ commit a. absurd a;
  within = λ commit a. absurd a;
  ordered = tt;
  now = record {
    born_before = λ model a. absurd a;
    apart = tt;
    timelines = λ model a. absurd a;
    clocks = λ one other a. absurd a;
  };
  before = λ commit a. absurd a;
}

begins_fitting : (script : ScriptLists) → IsWellFormed script → RunFits script (beginning script)
begins_fitting script h = record {
  book = new_book;
  main = begins_main script h;
  compositor = record {
    active = inl refl;
    behind = omega arith;
    pending = tt;
    marks = no_marks_fit (births 0 script.main) empty_commit;
  };
}

-- Along every word of a well-formed script.
pub run_fits : (script : ScriptLists) → IsWellFormed script → (word : List Lane) → RunFits script (after (beginning script) word)
run_fits script h word = word_fits script (beginning script) word (one_script script h) (begins_fitting script h)

-- The same after one more step.
pub run_after : (script : ScriptLists) → IsWellFormed script → (word : List Lane) (letter : Lane) → RunFits script (after_letter (after (beginning script) word) letter)
run_after script h word letter = letter_fits script (after (beginning script) word) letter (one_script script h) (run_fits script h word)

-- The marks that one step makes.
use Rattle.std.proofs.Common.{◌≡◌, ℕ, Bool, true, false, cond, Option, Some, None, List, [], ◌∷◌, ◌++◌, length, drop, refl, sym, ap, ◌∙◌, subst, ◌⊎◌, inl, inr, append_assoc}
use Rattle.std.proofs.Math.Seq.{drop-append_seam}
use Rattle.std.proofs.lemmas.List.{append-nil}
use Rattle.anim_names.specs.declared.lane.Lane.{Lane}
use Rattle.anim_names.specs.declared.lane.Lane.TheVariants.{Main, Compositor}
use Rattle.anim_names.specs.Lists.{BeginsWith, IsAmong}
use Rattle.keyframe_model.specs.Models.{Spec}
use Rattle.run_rules.specs.declared.mark.Mark.{Mark}
use Rattle.run_rules.specs.declared.compositor_step.CompositorStep.{CompositorStep}
use Rattle.run_rules.specs.declared.compositor_step.CompositorStep.TheVariants.{Tick}
use Rattle.tree_commit.specs.Trees.{TreeLists, Committed, members_of}
use Rattle.run_rules.specs.Marks.{is_ready, group_marks, start_mark, start_marks, marks_of_tick, marks_of_activation}
use Rattle.run_rules.specs.Runs.{Lanes, CompositorLane, after_letter, compositor_takes, compositor_step}
use Rattle.run_laws.specs.Steps.{new_marks, marks_of_pending, marks_of_step}
use Rattle.tree_commit.proofs.Among.{among-append_cases}
use Rattle.run_laws.proofs.StartFits.{IsReadyGroup, ready-parts, start_list, start-mark}
use Rattle.run_laws.proofs.CompositorSteps.{by_step, quiet-marks, next-marks}

-- ---- a step

next_marks : List CompositorStep → CompositorLane → List Mark
next_marks [] lane = []
next_marks (step ∷ left) lane = marks_of_step step lane

takes-marks : (commits : List Committed) (left : List CompositorStep) (lane : CompositorLane) → (compositor_takes commits left lane).marks ≡ lane.marks ++ next_marks left lane
unfolding next_marks
takes-marks commits [] lane = sym (append-nil lane.marks)
takes-marks commits (step ∷ left) lane = next-marks commits step left lane

-- ---- what a new mark is

-- a tick or an activation makes the mark
abbrev pub IsNewMark : Lanes → Mark → Type 0
IsNewMark lanes mark =
    ((time : ℕ) × (left : List CompositorStep) × (lanes.compositor.left ≡ Tick time ∷ left) × IsAmong mark (marks_of_tick lanes.compositor.active.tree lanes.compositor.pending lanes.compositor.marks time))
    ⊎ ((commit : Committed) × (lanes.compositor.pending ≡ Some commit) × IsAmong mark (marks_of_activation lanes.compositor.active.tree commit lanes.compositor.marks))

of_step : (lanes : Lanes) (left : List CompositorStep) (mark : Mark) → lanes.compositor.left ≡ left → IsAmong mark (next_marks left lanes.compositor) → IsNewMark lanes mark
unfolding next_marks
of_step lanes [] mark next a = absurd a
of_step lanes (step ∷ left) mark next a =
    by_step (λ step. lanes.compositor.left ≡ step ∷ left → IsAmong mark (marks_of_step step lanes.compositor) → IsNewMark lanes mark)
    (λ step quiet next a. absurd (subst (λ new. IsAmong mark new) (quiet-marks step lanes.compositor quiet) a))
    (λ next a. go lanes.compositor.pending refl a)
    (λ time next a. inl (time, left, next, a)) step next a
  where
    go : (pending : Option Committed) → lanes.compositor.pending ≡ pending → IsAmong mark (marks_of_pending pending lanes.compositor) → IsNewMark lanes mark
    go None e a = absurd a
    go (Some commit) e a = inr (commit, e, a)

letter-marks : (lanes : Lanes) (letter : Lane) → (more : List Mark) × ((after_letter lanes letter).compositor.marks ≡ lanes.compositor.marks ++ more) × ((mark : Mark) → IsAmong mark more → IsNewMark lanes mark)
unfolding compositor_step
letter-marks lanes Main = ([], sym (append-nil lanes.compositor.marks), λ mark a. absurd a)
letter-marks lanes Compositor = (next_marks lanes.compositor.left lanes.compositor, takes-marks lanes.main.commits lanes.compositor.left lanes.compositor, λ mark a. of_step lanes lanes.compositor.left mark refl a)

new-is : (lanes : Lanes) (letter : Lane) → new_marks lanes letter ≡ (letter-marks lanes letter).0
new-is lanes letter =
    let found = letter-marks lanes letter in
    ap (λ marks. drop (length lanes.compositor.marks) marks) found.1 ∙ drop-append_seam lanes.compositor.marks found.0

-- the marks after a step are those before it and the new ones
pub new-split : (lanes : Lanes) (letter : Lane) → (after_letter lanes letter).compositor.marks ≡ lanes.compositor.marks ++ new_marks lanes letter
new-split lanes letter = (letter-marks lanes letter).1 ∙ ap (λ more. lanes.compositor.marks ++ more) (sym (new-is lanes letter))

pub new-mark : (lanes : Lanes) (letter : Lane) (mark : Mark) → IsAmong mark (new_marks lanes letter) → IsNewMark lanes mark
new-mark lanes letter mark a = (letter-marks lanes letter).2 mark (subst (λ more. IsAmong mark more) (new-is lanes letter) a)

-- ---- what a tick starts

-- the mark is that of a member of a group that was ready over the marks so far
pub record IsStart (active : TreeLists) (pending : Option Committed) (marks : List Mark) (tick : ℕ) (mark : Mark) : Type 0 where
  pub so_far : List Mark
  pub goes_on : BeginsWith so_far marks
  pub model : Spec
  pub there : IsAmong model active.models
  pub member : IsAmong model (members_of active model.group)
  pub ready : IsReadyGroup active pending so_far model.group
  pub is : mark ≡ start_mark active tick model

pub started-mark : (active : TreeLists) (pending : Option Committed) (tick : ℕ) (groups : List ℕ) (marks : List Mark) (mark : Mark) → IsAmong mark (start_marks active pending marks tick groups) → IsStart active pending marks tick mark
unfolding start_marks
started-mark active pending tick [] marks mark a = absurd a
started-mark active pending tick (group ∷ behind) marks mark a =
    go (among-append_cases mark new (start_marks active pending (marks ++ new) tick behind) a) (λ later. started-mark active pending tick behind (marks ++ new) mark later)
  where
    new : List Mark
    new = group_marks active pending marks tick group

    own : (ready : Bool) → is_ready active pending marks group ≡ ready → IsAmong mark (cond ready (start_list active tick group) []) → IsStart active pending marks tick mark
    own true e here =
        let found = start-mark active tick group mark here in
        record {
          so_far = marks;
          goes_on = ([], sym (append-nil marks));
          model = found.0;
          there = found.1;
          member = subst (λ g. IsAmong found.0 (members_of active g)) found.2 found.4;
          ready = subst (λ g. IsReadyGroup active pending marks g) found.2 (ready-parts active pending marks group e);
          is = found.3;
        }
    own false e here = absurd here

    go : IsAmong mark new ⊎ IsAmong mark (start_marks active pending (marks ++ new) tick behind) → (IsAmong mark (start_marks active pending (marks ++ new) tick behind) → IsStart active pending (marks ++ new) tick mark) → IsStart active pending marks tick mark
    go (inl here) rest = own (is_ready active pending marks group) refl here
    go (inr later) rest =
        let found = rest later in
        record {
          so_far = found.so_far;
          goes_on = (new ++ found.goes_on.0, found.goes_on.1 ∙ append_assoc marks new found.goes_on.0);
          model = found.model;
          there = found.there;
          member = found.member;
          ready = found.ready;
          is = found.is;
        }

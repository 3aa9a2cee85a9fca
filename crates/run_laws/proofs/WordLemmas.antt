-- Words of two parts, and marks that only grow.
use Rattle.std.proofs.Common.{◌≡◌, List, [], ◌∷◌, ◌++◌, sym, ap, ◌∙◌, append_assoc}
use Rattle.std.proofs.lemmas.List.Sums.{fold-append}
use Rattle.std.proofs.lemmas.List.{append-nil}
use Rattle.anim_names.specs.declared.lane.Lane.{Lane}
use Rattle.anim_names.specs.declared.lane.Lane.TheVariants.{Main, Compositor}
use Rattle.run_rules.specs.declared.compositor_step.CompositorStep.{CompositorStep}
use Rattle.anim_names.specs.Lists.{BeginsWith}
use Rattle.run_laws.specs.Growth.{MarksOnlyGrow}
use Rattle.run_laws.specs.Steps.{marks_of_step}
use Rattle.run_laws.proofs.CompositorSteps.{makes-marks}
use Rattle.tree_commit.specs.Trees.{Committed}
use Rattle.run_rules.specs.Runs.{Lanes, CompositorLane, after_letter, after, compositor_step, compositor_takes}

pub after-append : (lanes : Lanes) (first second : List Lane) → after lanes (first ++ second) ≡ after (after lanes first) second
unfolding after
after-append lanes first second = fold-append after_letter lanes first second

-- ---- a list that goes on

pub goes_on_same : {A : Type 0} (xs : List A) → BeginsWith xs xs
goes_on_same xs = ([], sym (append-nil xs))

pub goes_on_trans : {A : Type 0} (xs ys zs : List A) → BeginsWith ys xs → BeginsWith zs ys → BeginsWith zs xs
goes_on_trans xs ys zs (more, e) (rest, f) = (more ++ rest, f ∙ ap (λ l. l ++ rest) e ∙ append_assoc xs more rest)

-- ---- marks only grow

takes_grows : (commits : List Committed) (left : List CompositorStep) (lane : CompositorLane) → BeginsWith (compositor_takes commits left lane).marks lane.marks
takes_grows commits [] lane = goes_on_same lane.marks
takes_grows commits (step ∷ left) lane =
    let now : CompositorLane = record lane { left = left } in (marks_of_step step now, makes-marks commits step now)

pub letter_grows : (lanes : Lanes) (letter : Lane) → BeginsWith (after_letter lanes letter).compositor.marks lanes.compositor.marks
unfolding compositor_step
letter_grows lanes Main = goes_on_same lanes.compositor.marks
letter_grows lanes Compositor = takes_grows lanes.main.commits lanes.compositor.left lanes.compositor

pub word_grows : (lanes : Lanes) (word : List Lane) → MarksOnlyGrow lanes word
unfolding after
word_grows lanes [] = goes_on_same lanes.compositor.marks
word_grows lanes (letter ∷ word) =
    goes_on_trans _ _ _ (letter_grows lanes letter) (word_grows (after_letter lanes letter) word)

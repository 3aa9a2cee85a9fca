-- Steps of the compositor: a step that is quiet, or an activation, or a tick.
use Rattle.std.proofs.Common.{◌≡◌, ℕ, true, Option, Some, None, List, [], ◌∷◌, ◌++◌, refl, sym, ap, ◌∙◌, false}
use Rattle.std.proofs.lemmas.Bool.{false≢true}
use Rattle.std.proofs.lemmas.List.{append-nil}
use Rattle.std.proofs.lemmas.Option.{none-some}
use Rattle.std.specs.List.{cons_option}
use Rattle.run_rules.specs.declared.compositor_step.CompositorStep.{CompositorStep}
use Rattle.run_rules.specs.declared.compositor_step.CompositorStep.TheVariants.{Pull, Activate, Tick}
use Rattle.tree_commit.specs.Trees.{Committed}
use Rattle.run_rules.specs.Runs.{CompositorLane, after_activation, compositor_makes}
use Rattle.run_rules.specs.Scripts.{is_quiet, ticks_of, time_of_tick}
use Rattle.run_rules.proofs.StepLemmas.{quiet-keeps}
use Rattle.run_laws.specs.Steps.{marks_of_pending, marks_of_step}

-- What is so of every quiet step, of an activation and of a tick is so of every step.
pub by_step : (P : CompositorStep → Type 0) → ((step : CompositorStep) → is_quiet step ≡ true → P step) → P Activate → ((time : ℕ) → P (Tick time)) → (step : CompositorStep) → P step
by_step P quiet activate tick Pull = quiet Pull refl
by_step P quiet activate tick Activate = activate
by_step P quiet activate tick (Tick time) = tick time

-- What is so of an activation and of a tick is so of every step that is not quiet.
pub by_mark : (P : CompositorStep → Type 0) → P Activate → ((time : ℕ) → P (Tick time)) → (step : CompositorStep) → is_quiet step ≡ false → P step
by_mark P activate tick step may =
    by_step (λ step. is_quiet step ≡ false → P step) (λ step quiet may. absurd (false≢true (sym may ∙ quiet))) (λ may. activate) (λ time may. tick time) step may

-- a quiet step makes no mark
pub quiet-marks : (step : CompositorStep) (lane : CompositorLane) → is_quiet step ≡ true → marks_of_step step lane ≡ []
quiet-marks Pull lane quiet = refl
quiet-marks Activate lane quiet = absurd (false≢true quiet)
quiet-marks (Tick time) lane quiet = absurd (false≢true quiet)

-- and is no tick
pub quiet-time : (step : CompositorStep) → is_quiet step ≡ true → time_of_tick step ≡ None
quiet-time Pull quiet = refl
quiet-time Activate quiet = absurd (false≢true quiet)
quiet-time (Tick time) quiet = absurd (false≢true quiet)

-- an activation leaves what is left and what is drawn
pub activation-left : (pending : Option Committed) (lane : CompositorLane) → ((after_activation pending lane).left ≡ lane.left) × ((after_activation pending lane).frames ≡ lane.frames)
activation-left None lane = (refl, refl)
activation-left (Some commit) lane = (refl, refl)

activation-marks : (pending : Option Committed) (lane : CompositorLane) → (after_activation pending lane).marks ≡ lane.marks ++ marks_of_pending pending lane
activation-marks None lane = sym (append-nil lane.marks)
activation-marks (Some commit) lane = refl

-- a step adds its marks
pub makes-marks : (commits : List Committed) (step : CompositorStep) (lane : CompositorLane) → (compositor_makes commits step lane).marks ≡ lane.marks ++ marks_of_step step lane
makes-marks commits step lane =
    by_step (λ step. (compositor_makes commits step lane).marks ≡ lane.marks ++ marks_of_step step lane)
    (λ step quiet. (quiet-keeps commits step lane quiet).marks ∙ sym (append-nil lane.marks) ∙ ap (λ new. lane.marks ++ new) (sym (quiet-marks step lane quiet)))
    (activation-marks lane.pending lane)
    (λ time. refl) step

-- a step takes no other step
pub makes-left : (commits : List Committed) (step : CompositorStep) (lane : CompositorLane) → (compositor_makes commits step lane).left ≡ lane.left
makes-left commits step lane =
    by_step (λ step. (compositor_makes commits step lane).left ≡ lane.left)
    (λ step quiet. (quiet-keeps commits step lane quiet).left)
    (activation-left lane.pending lane).0
    (λ time. refl) step

-- what is left makes no difference to the marks of a step
marks-left : (step : CompositorStep) (left : List CompositorStep) (lane : CompositorLane) → marks_of_step step (record lane { left = left }) ≡ marks_of_step step lane
marks-left step left lane =
    by_step (λ step. marks_of_step step (record lane { left = left }) ≡ marks_of_step step lane)
    (λ step quiet. quiet-marks step _ quiet ∙ sym (quiet-marks step lane quiet))
    (pending-left lane.pending) (λ time. refl) step
  where
    pending-left : (pending : Option Committed) → marks_of_pending pending (record lane { left = left }) ≡ marks_of_pending pending lane
    pending-left None = refl
    pending-left (Some commit) = refl

-- the next step adds its marks
pub next-marks : (commits : List Committed) (step : CompositorStep) (left : List CompositorStep) (lane : CompositorLane) → (compositor_makes commits step (record lane { left = left })).marks ≡ lane.marks ++ marks_of_step step lane
next-marks commits step left lane = makes-marks commits step (record lane { left = left }) ∙ ap (λ new. lane.marks ++ new) (marks-left step left lane)

-- a step draws no frame, unless it is a tick
pub makes-frames : (commits : List Committed) (step : CompositorStep) (lane : CompositorLane) → time_of_tick step ≡ None → (compositor_makes commits step lane).frames ≡ lane.frames
makes-frames commits step lane none =
    by_step (λ step. time_of_tick step ≡ None → (compositor_makes commits step lane).frames ≡ lane.frames)
    (λ step quiet none. (quiet-keeps commits step lane quiet).frames)
    (λ none. (activation-left lane.pending lane).1)
    (λ time some. absurd (none-some time (sym some))) step none

-- what is no tick adds none
pub ticks-left : (step : CompositorStep) (left : List CompositorStep) → time_of_tick step ≡ None → ticks_of (step ∷ left) ≡ ticks_of left
ticks-left step left none = ap (λ time. cons_option time (ticks_of left)) none

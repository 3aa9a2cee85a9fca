-- The book and the ticks of one more step.
use Rattle.std.proofs.Common.{◌≡◌, ℕ, List, [], ◌∷◌, ◌++◌, Option, Some, None, Ok, refl, ◌∙◌}
use Rattle.std.proofs.lemmas.Grind.{fold-append}
use Rattle.std.proofs.lemmas.List.{append-nil}
use Rattle.std.proofs.lemmas.List.Elements.{filter_map-append}
use Rattle.run_rules.specs.declared.compositor_step.CompositorStep.{CompositorStep}
use Rattle.run_rules.specs.declared.compositor_step.CompositorStep.TheVariants.{Pull, Activate, Tick}
use Rattle.tree_commit.specs.Edits.{new_book}
use Rattle.run_rules.specs.Scripts.{StepOfMain, book_of, book_after_step, time_of_tick, ticks_of}
use Rattle.frame_script.specs.declared.cause.Cause.{Cause}
use Rattle.frame_script.specs.Causes.{allow}
use Rattle.frame_script.specs.States.{last_from}

-- ---- the book

pub book_of-push : (steps : List StepOfMain) (step : StepOfMain) → book_of (steps ++ step ∷ []) ≡ book_after_step (book_of steps) step
book_of-push steps step = fold-append book_after_step new_book steps (step ∷ [])

pub allowed_is : (cause : Option Cause) → allow cause ≡ Ok tt → cause ≡ None
allowed_is None h = refl
allowed_is (Some c) h = absurd cc

-- ---- the ticks

-- these times, and the one of a further step where it is a tick
abbrev pub ticks_with : List ℕ → CompositorStep → List ℕ
ticks_with ticks Pull = ticks
ticks_with ticks Activate = ticks
ticks_with ticks (Tick time) = ticks ++ time ∷ []

pub ticks_of-push : (steps : List CompositorStep) (step : CompositorStep) → ticks_of (steps ++ step ∷ []) ≡ ticks_with (ticks_of steps) step
ticks_of-push steps Pull = filter_map-append time_of_tick steps (Pull ∷ []) ∙ append-nil (ticks_of steps)
ticks_of-push steps Activate = filter_map-append time_of_tick steps (Activate ∷ []) ∙ append-nil (ticks_of steps)
ticks_of-push steps (Tick time) = filter_map-append time_of_tick steps (Tick time ∷ [])

-- the last of the times with one more is that one
pub last_from-push : (before : ℕ) (times : List ℕ) (time : ℕ) → last_from before (times ++ time ∷ []) ≡ time
last_from-push before [] time = refl
last_from-push before (next ∷ times) time = last_from-push next times time

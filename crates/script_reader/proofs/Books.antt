-- The book and the counts that are kept, with one more step.
use Rattle.std.proofs.Common.{◌≡◌, ℕ, ◌+◌, ◌≤◌, List, [], ◌∷◌, ◌++◌, map, length, length-append, ap, sym, ◌∙◌, arith}
use Rattle.std.proofs.lemmas.List.{map-append}
use Rattle.run_rules.specs.declared.compositor_step.CompositorStep.{CompositorStep}
use Rattle.run_rules.specs.declared.compositor_step.CompositorStep.TheVariants.{Tick}
use Rattle.tree_commit.specs.Edits.{Book}
use Rattle.run_rules.specs.Scripts.{book_of, book_after_step, ticks_of}
use Rattle.run_rules.specs.Views.{step_of}
use Rattle.run_rules.specs.declared.main_step.MainStep.{MainStep}
use Rattle.frame_script.specs.States.{last_from}
use Rattle.frame_script.proofs.Books.{book_of-push, ticks_with, ticks_of-push, last_from-push}

-- ---- the book

-- a book that was that of the steps is that with one more
pub book_with_step : (steps all : List MainStep) (step : MainStep) (book after : Book) → book ≡ book_of (map step_of steps) → all ≡ steps ++ step ∷ []
    → after ≡ book_after_step book (step_of step) → after ≡ book_of (map step_of all)
book_with_step steps all step book after book-is all-is after-is =
    let front : book_of (map step_of (steps ++ step ∷ [])) ≡ book_after_step (book_of (map step_of steps)) (step_of step) =
    ap book_of (map-append step_of steps (step ∷ [])) ∙ book_of-push (map step_of steps) (step_of step) in
    after-is ∙ ap (λ (b : Book). book_after_step b (step_of step)) book-is ∙ sym (ap (λ (ss : List MainStep). book_of (map step_of ss)) all-is ∙ front)

-- ---- the ticks

-- a count and a last time that were those of the steps are those with one more
pub record FitsTicks (steps : List CompositorStep) (ticks last : ℕ) : Type 0 where
  pub ticks_is : ticks ≡ length (ticks_of steps)
  pub last_is : last ≡ last_from 0 (ticks_of steps)
  pub few : ticks ≤ length steps

pub fits_with_tick : (steps all : List CompositorStep) (ticks last time : ℕ) → FitsTicks steps ticks last → all ≡ steps ++ Tick time ∷ [] → FitsTicks all (ticks + 1) time
fits_with_tick steps all ticks last time fits all-is =
    rw all-is (record {
      ticks_is = omega (arith, fits.ticks_is, ap length (ticks_of-push steps (Tick time)), length-append (ticks_of steps) (time ∷ []));
      last_is = sym (ap (last_from 0) (ticks_of-push steps (Tick time)) ∙ last_from-push 0 (ticks_of steps) time);
      few = omega (arith, fits.few, length-append steps (Tick time ∷ []));
    })

pub fits_with_other : (steps all : List CompositorStep) (step : CompositorStep) (ticks last : ℕ) → FitsTicks steps ticks last → ticks_with (ticks_of steps) step ≡ ticks_of steps
    → all ≡ steps ++ step ∷ [] → FitsTicks all ticks last
fits_with_other steps all step ticks last fits other all-is =
    let same : ticks_of (steps ++ step ∷ []) ≡ ticks_of steps = ticks_of-push steps step ∙ other in
    rw all-is (record {
      ticks_is = fits.ticks_is ∙ ap length (sym same);
      last_is = fits.last_is ∙ ap (last_from 0) (sym same);
      few = omega (arith, fits.few, length-append steps (step ∷ []));
    })

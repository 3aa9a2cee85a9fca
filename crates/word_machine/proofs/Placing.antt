-- A commit that a pull gives may be placed.
use Rattle.std.proofs.Common.{◌≡◌, Bool, true, not, Option, Some, None, sym, subst, ◌∙◌}
use Rattle.std.specs.Prelude.{IsSomeAnd}
use Rattle.std.proofs.lemmas.Bool.{not-true}
use Rattle.frame_exchange.specs.Journals.{Exchange, finds_nothing, reply_to_pull}
use Rattle.frame_exchange.specs.Sides.{CompositorState, compositor_after_pull, slot_of}
use Rattle.run_rules.specs.declared.compositor_step.CompositorStep.{CompositorStep}
use Rattle.run_rules.specs.declared.compositor_step.CompositorStep.TheVariants.{Pull}
use Rattle.run_rules.specs.Follows.{Follows, KnowsAtMost}
use Rattle.tree_commit.specs.Trees.{Committed}
use Rattle.word_machine.specs.Turns.{AllowsStep, MayPlace}

pub place-follows : (old new : CompositorState) (reply : Option Committed) → new ≡ compositor_after_pull old reply → IsSomeAnd reply (MayPlace old) → IsSomeAnd new.pulled (λ commit. Follows new.active.tree commit.tree new.marks)
place-follows old new None made h = absurd h
place-follows old new (Some commit) made h =
    subst (λ (s : CompositorState). IsSomeAnd s.pulled (λ commit. Follows s.active.tree commit.tree s.marks)) (sym made) h.follows

pub place-room : (old new : CompositorState) (reply : Option Committed) → new ≡ compositor_after_pull old reply → IsSomeAnd reply (MayPlace old) → IsSomeAnd new.pulled (λ commit. KnowsAtMost new.models new.active.tree commit.tree new.marks)
place-room old new None made h = absurd h
place-room old new (Some commit) made h =
    subst (λ (s : CompositorState). IsSomeAnd s.pulled (λ commit. KnowsAtMost s.models s.active.tree commit.tree s.marks)) (sym made) h.room

-- a pull that finds a commit: it may be placed, where the step allows that
pub found-allows : (step : CompositorStep) (compositor : CompositorState) (board : Exchange) (found : Bool) → step ≡ Pull → AllowsStep step compositor board → found ≡ true → found ≡ not (finds_nothing board.entries (slot_of compositor.pending)) → IsSomeAnd (reply_to_pull board (slot_of compositor.pending)) (MayPlace compositor)
found-allows step compositor board found pull allows was is =
    let allowed : AllowsStep Pull compositor board = subst (λ (s : CompositorStep). AllowsStep s compositor board) pull allows in
    allowed (not-true (finds_nothing board.entries (slot_of compositor.pending)) (sym is ∙ was))

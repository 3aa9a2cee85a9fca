use Rattle.std.proofs.Common.{◌≡◌, ◌+◌, List, ◌∷◌, drop, get_or, ap, sym, subst}
use Rattle.std.proofs.lemmas.List.{drop_more}
use Rattle.commit_lock.specs.Seats.{SeatState}
use Rattle.frame_exchange.specs.Sides.{CompositorState}
use Rattle.run_rules.specs.declared.compositor_step.CompositorStep.{CompositorStep}
use Rattle.run_rules.specs.declared.compositor_step.CompositorStep.TheVariants.{Pull}
use Rattle.run_rules.specs.Frames.{DrawnFrame}
use Rattle.lane_threads.specs.Knowing.{IsNextOfCompositor, KnowsCompositor}
use Rattle.lane_threads.proofs.CompositorLane.{knows-new_compositor}
use Rattle.lane_threads.proofs.compositor_turns.compositor_lane.Goals as goal

pub loop-number-init : goal.loop-number-init
loop-number-init g c = record {
  lock = ap (λ (s : SeatState). s.lock) c.requires.seat;
  knows = subst (λ (frames : List DrawnFrame). KnowsCompositor c.args.script.now c.args.seat (g.C.CompositorSteps.state c.args.side.now) frames) (sym c.new-frames.ensures.items)
      (knows-new_compositor _ c.main-well.ensures.kept _ _ c.requires.new c.requires.models (ap (λ (s : SeatState). s.lane) c.requires.seat)
      (ap (λ (s : SeatState). s.subject) c.requires.seat) (ap (λ (s : SeatState). s.seen) c.requires.seat) (ap (λ (s : SeatState). s.mine) c.requires.seat));
  steps = ap (λ (m : CompositorState). m.steps) c.requires.new;
}

pub turn-after-requires-clause-next : goal.turn-after-requires-clause-next
turn-after-requires-clause-next g c =
    let step = get_or c.compositor-steps.result.now c.loop-number.number Pull in
    subst (λ n. IsNextOfCompositor c.args.script.now n step) (sym c.loop-number.invariant.steps)
    (subst (λ (steps : List CompositorStep). drop c.loop-number.number steps ≡ step ∷ drop (c.loop-number.number + 1) steps) c.compositor-steps.ensures
    (drop_more c.compositor-steps.result.now c.loop-number.number Pull c.loop-number-test.true))

use Rattle.std.proofs.Common.{ℕ, List, ap, sym, subst}
use Rattle.commit_lock.specs.Seats.{SeatState}
use Rattle.frame_exchange.specs.Sides.{MainState}
use Rattle.run_rules.specs.Views.{step_of}
use Rattle.lane_threads.specs.Knowing.{IsNextOfMain, KnowsMain}
use Rattle.lane_threads.proofs.MainLane.{knows-new_main}
use Rattle.lane_threads.proofs.Outcomes.{step-at}
use Rattle.lane_threads.proofs.main_turns.main_lane.Goals as goal

pub loop-number-init : goal.loop-number-init
loop-number-init g c = record {
  lock = ap (λ (s : SeatState). s.lock) c.requires.seat;
  knows = subst (λ (counts : List ℕ). KnowsMain c.args.script.now c.args.seat (g.M.MainSteps.state c.args.side.now) counts) (sym c.new-counts.ensures.items)
      (knows-new_main _ c.main-steps.ensures.kept _ _ c.requires.new c.requires.room (ap (λ (s : SeatState). s.lane) c.requires.seat)
      (ap (λ (s : SeatState). s.subject) c.requires.seat) (ap (λ (s : SeatState). s.seen) c.requires.seat) (ap (λ (s : SeatState). s.mine) c.requires.seat));
  steps = ap (λ (m : MainState). m.steps) c.requires.new;
}

pub turn-after-requires-clause-next : goal.turn-after-requires-clause-next
turn-after-requires-clause-next g c =
    subst (λ n. IsNextOfMain c.args.script.now n (step_of c.index-steps-number.result)) (sym c.loop-number.invariant.steps)
    (step-at step_of _ _ _ _ c.main-steps.ensures.steps c.loop-number-test.true c.index-steps-number.is)

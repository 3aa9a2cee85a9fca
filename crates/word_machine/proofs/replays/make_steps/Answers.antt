use Rattle.std.proofs.Common.{ap, ◌∙◌, map}
use Rattle.std.specs.Slice.Iter.{iter_rest}
use Rattle.run_rules.specs.Views.{step_of}
use Rattle.word_machine.proofs.Letters.{amid-compositor_may, amid-compositor_next, amid-compositor_rests, amid-main_may, amid-main_next, amid-main_rests, amid_beginning, amid_same, none-left}
use Rattle.word_machine.proofs.replays.make_steps.Goals as goal
use Rattle.word_machine.proofs.replays.make_steps.Goals.{in-Main+in-Some+in_ok-turn_of_main-in-Main, in-Main+in_default, in-Compositor+in-Some-next+in_ok-turn_of_compositor-in-Compositor, in-Compositor+in_default-next}

pub loop-letter-init : goal.loop-letter-init
loop-letter-init g c =
    amid_beginning _ c.main.ensures.kept _ _ _ _ _ _ _ c.entry_count-kept.ensures.exchange c.requires.may c.requires.no_count c.requires.no_frame
    (ap (map step_of) c.iter-steps_of_main.ensures.rest ∙ c.main.ensures.steps) (c.iter-steps_of_compositor.ensures.rest ∙ c.compositor.ensures)

pub turn_of_main-requires : goal.turn_of_main-requires
turn_of_main-requires g c = amid-main_may _ _ _ _ _ _ _ _ _ _ c.loop-letter.invariant c.main.ensures.kept _ _ c.in-Some.ensures.steps

pub turn_of_compositor-requires : goal.turn_of_compositor-requires
turn_of_compositor-requires g c =
    amid-compositor_may _ _ _ _ _ _ _ _ _ _ c.loop-letter.invariant c.main.ensures.kept _ _ c.in-Some-next.ensures.steps

pub loop-letter-preserved : goal.loop-letter-preserved
loop-letter-preserved g c =
    elim c.match-letter.branch [
      | in-Main+in-Some+in_ok-turn_of_main-in-Main w ↦
          amid_same _ _ _ _ _ _ _ _ _ _ _ _ _ _ _ _ (ap g.M.MainSteps.state w.main-is) (ap g.C.CompositorSteps.state w.compositor-is) w.board-is (ap (λ v. v.items) w.counts-is) (ap (λ v. v.items) w.frames-is) (ap iter_rest w.steps_of_main-is) (ap iter_rest w.steps_of_compositor-is)
          (amid-main_next _ _ _ _ _ _ _ _ _ _ c.loop-letter.invariant c.loop-letter-test.true _ _ _ _ _ w.in-Main.is w.in-Some.ensures.steps w.in_ok-turn_of_main-in-Main.ensures.made w.in_ok-turn_of_main-in-Main.ensures.board w.in_ok-turn_of_main-in-Main.ensures.counts)
      | in-Main+in_default w ↦
          amid_same _ _ _ _ _ _ _ _ _ _ _ _ _ _ _ _ (ap g.M.MainSteps.state w.main-is) (ap g.C.CompositorSteps.state w.compositor-is) w.board-is (ap (λ v. v.items) w.counts-is) (ap (λ v. v.items) w.frames-is) (ap iter_rest (w.steps_of_main-is ∙ w.in_default.ensures.steps.1)) (ap iter_rest w.steps_of_compositor-is)
          (amid-main_rests _ _ _ _ _ _ _ _ _ _ c.loop-letter.invariant c.loop-letter-test.true w.in-Main.is (none-left _ w.in_default.ensures.steps.0))
      | in-Compositor+in-Some-next+in_ok-turn_of_compositor-in-Compositor w ↦
          amid_same _ _ _ _ _ _ _ _ _ _ _ _ _ _ _ _ (ap g.M.MainSteps.state w.main-is) (ap g.C.CompositorSteps.state w.compositor-is) w.board-is (ap (λ v. v.items) w.counts-is) (ap (λ v. v.items) w.frames-is) (ap iter_rest w.steps_of_main-is) (ap iter_rest w.steps_of_compositor-is)
          (amid-compositor_next _ _ _ _ _ _ _ _ _ _ c.loop-letter.invariant c.loop-letter-test.true _ _ _ _ _ w.in-Compositor.is w.in-Some-next.ensures.steps w.in_ok-turn_of_compositor-in-Compositor.ensures.made w.in_ok-turn_of_compositor-in-Compositor.ensures.board w.in_ok-turn_of_compositor-in-Compositor.ensures.frames)
      | in-Compositor+in_default-next w ↦
          amid_same _ _ _ _ _ _ _ _ _ _ _ _ _ _ _ _ (ap g.M.MainSteps.state w.main-is) (ap g.C.CompositorSteps.state w.compositor-is) w.board-is (ap (λ v. v.items) w.counts-is) (ap (λ v. v.items) w.frames-is) (ap iter_rest w.steps_of_main-is) (ap iter_rest (w.steps_of_compositor-is ∙ w.in_default-next.ensures.steps.1))
          (amid-compositor_rests _ _ _ _ _ _ _ _ _ _ c.loop-letter.invariant c.loop-letter-test.true w.in-Compositor.is (none-left _ w.in_default-next.ensures.steps.0))
    ]

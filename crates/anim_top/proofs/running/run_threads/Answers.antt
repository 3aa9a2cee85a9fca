use Rattle.anim_top.proofs.Beginning.{may_replay}
use Rattle.anim_top.proofs.Outcomes.{found_if_ok}
use Rattle.anim_top.proofs.running.run_threads.Goals as goal

pub run_lanes-requires-after_bounds : goal.run_lanes-requires-after_bounds
run_lanes-requires-after_bounds g c κs within =
    may_replay _ c.main-well.ensures.kept _ _ c.in_ok-board.board c.in_ok-main.ensures c.in_ok-compositor.ensures
    c.in_ok-board.ensures.no_entry c.in_ok-board.ensures.entry_room c.in_ok-board.ensures.event_room

pub returns-clause-report : goal.returns-clause-report
returns-clause-report g c = c.run_lanes.ensures.report

pub returns-clause-word : goal.returns-clause-word
returns-clause-word g c = found_if_ok c.args.script.now (λ report. report.word) c.run_lanes.result c.run_lanes.ensures.word c.run_lanes.ensures.laws

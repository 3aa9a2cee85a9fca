use Rattle.std.proofs.Common.{sym, ap, subst, ◌∙◌}
use Rattle.commit_lock.specs.Journals.{entries_of}
use Rattle.frame_exchange.specs.Journals.{Exchange}
use Rattle.script_printer.proofs.ScriptsBack.{one_text_one_script}
use Rattle.lane_threads.specs.Knowing.{HaveEnded}
use Rattle.lane_threads.proofs.Ends.{have-ended}
use Rattle.lane_threads.proofs.Outcomes.{if_ok, where_ok}
use Rattle.lane_threads.proofs.both.run_lanes.Goals as goal

pub report_of_end-requires : goal.report_of_end-requires
report_of_end-requires g c =
    subst (λ (b : Exchange). HaveEnded c.args.script.now b (g.M.MainSteps.state c.join_lanes-main_end.result.0.1) c.in_ok-counts.field-0.items c.in_ok-frames.field-0.items) (sym c.into_board-board.ensures.board)
    (have-ended c.args.script.now c.close.result
    (one_text_one_script _ _ c.into_board-board.ensures.kept.well c.main-well.ensures.kept (c.close.ensures.main_subject ∙ c.join_lanes-main_end.ensures.main_seat.subject))
    c.into_board-board.ensures.kept _ _ _ _ _ _
    (if_ok _ _ _ c.in_ok-counts.was c.join_lanes-main_end.ensures.main_knows)
    (if_ok _ _ _ c.in_ok-frames.was c.join_lanes-main_end.ensures.compositor_knows)
    c.close.ensures.main_seen
    (ap (λ lane. entries_of lane c.close.result.board.entries) c.join_lanes-main_end.ensures.main_seat.lane_is ∙ c.close.ensures.main_mine)
    c.close.ensures.compositor_seen
    (ap (λ lane. entries_of lane c.close.result.board.entries) c.join_lanes-main_end.ensures.compositor_seat.lane_is ∙ c.close.ensures.compositor_mine)
    (where_ok _ _ c.in_ok-counts.was c.join_lanes-main_end.ensures.main_all)
    (where_ok _ _ c.in_ok-frames.was c.join_lanes-main_end.ensures.compositor_all))

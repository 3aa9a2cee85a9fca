use Rattle.std.proofs.Common.{subst, sym, ap, ◌∙◌}
use Rattle.lane_threads.specs.Keeping.{ScriptBoard}
use Rattle.lane_threads.specs.Sections.{MaySendMarks}
use Rattle.lane_threads.proofs.Sections.{send-event_room, send-few, send-kept, send-later, found-script, marks-may}
use Rattle.lane_threads.proofs.lane_board.LaneBoard.send.Goals as goal

pub send-requires-clause-later : goal.send-requires-clause-later
send-requires-clause-later g c =
    send-later (record { script = c.self.inside.script.now; board = c.self.inside.board }) c.self.invariant _ (subst (λ (s : ScriptBoard). MaySendMarks s (g.C.CompositorSteps.state c.args.compositor.now)) (sym (found-script _ _ _ c.self.view_is c.self.invariant c.main-well.ensures.kept c.requires.same)) c.requires.may)

pub send-requires-clause-event_room : goal.send-requires-clause-event_room
send-requires-clause-event_room g c =
    send-event_room (record { script = c.self.inside.script.now; board = c.self.inside.board }) c.self.invariant _ (subst (λ (s : ScriptBoard). MaySendMarks s (g.C.CompositorSteps.state c.args.compositor.now)) (sym (found-script _ _ _ c.self.view_is c.self.invariant c.main-well.ensures.kept c.requires.same)) c.requires.may)

pub send-requires-clause-few : goal.send-requires-clause-few
send-requires-clause-few g c =
    send-few (record { script = c.self.inside.script.now; board = c.self.inside.board }) c.self.invariant _ (subst (λ (s : ScriptBoard). MaySendMarks s (g.C.CompositorSteps.state c.args.compositor.now)) (sym (found-script _ _ _ c.self.view_is c.self.invariant c.main-well.ensures.kept c.requires.same)) c.requires.may)

pub invariant_of-self : goal.invariant_of-self
invariant_of-self g c =
    send-kept (record { script = c.self.inside.script.now; board = c.self.inside.board }) c.self.invariant _ (subst (λ (s : ScriptBoard). MaySendMarks s (g.C.CompositorSteps.state c.args.compositor.now)) (sym (found-script _ _ _ c.self.view_is c.self.invariant c.main-well.ensures.kept c.requires.same)) c.requires.may) c.requires.news _
    c.send.ensures.entries c.send.ensures.mailbox c.send.ensures.events c.send.ensures.heard c.send.ensures.event_room c.send.ensures.board_room

pub send-requires-clause-room : goal.send-requires-clause-room
send-requires-clause-room g c = (marks-may (record { script = c.self.inside.script.now; board = c.self.inside.board }) c.self.invariant _ (subst (λ (s : ScriptBoard). MaySendMarks s (g.C.CompositorSteps.state c.args.compositor.now)) (sym (found-script _ _ _ c.self.view_is c.self.invariant c.main-well.ensures.kept c.requires.same)) c.requires.may)).room

pub returns-clause-script : goal.returns-clause-script
returns-clause-script g c =
    ap (λ (s : ScriptBoard). s.script) (sym c.self.view_is ∙ found-script _ _ _ c.self.view_is c.self.invariant c.main-well.ensures.kept c.requires.same)

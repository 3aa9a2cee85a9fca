use Rattle.std.proofs.Common.{subst, sym, ap, ◌∙◌}
use Rattle.lane_threads.specs.Keeping.{ScriptBoard}
use Rattle.lane_threads.specs.Sections.{MayPull}
use Rattle.lane_threads.proofs.Sections.{pull-kept, pull-may, found-script}
use Rattle.lane_threads.proofs.lane_board.LaneBoard.pull.Goals as goal

pub pull-requires-clause-later : goal.pull-requires-clause-later
pull-requires-clause-later g c =
    (pull-may (record { script = c.self.inside.script.now; board = c.self.inside.board }) c.self.invariant _ (subst (λ (s : ScriptBoard). MayPull s (g.C.CompositorSteps.state c.args.compositor.now)) (sym (found-script _ _ _ c.self.view_is c.self.invariant c.main-well.ensures.kept c.requires.same)) c.requires.may)).later

pub invariant_of-self : goal.invariant_of-self
invariant_of-self g c =
    pull-kept (record { script = c.self.inside.script.now; board = c.self.inside.board }) c.self.invariant _ (subst (λ (s : ScriptBoard). MayPull s (g.C.CompositorSteps.state c.args.compositor.now)) (sym (found-script _ _ _ c.self.view_is c.self.invariant c.main-well.ensures.kept c.requires.same)) c.requires.may) _
    c.pull.ensures.entries c.pull.ensures.mailbox c.pull.ensures.queue c.pull.ensures.board_room

pub pull-requires-clause-room : goal.pull-requires-clause-room
pull-requires-clause-room g c = (pull-may (record { script = c.self.inside.script.now; board = c.self.inside.board }) c.self.invariant _ (subst (λ (s : ScriptBoard). MayPull s (g.C.CompositorSteps.state c.args.compositor.now)) (sym (found-script _ _ _ c.self.view_is c.self.invariant c.main-well.ensures.kept c.requires.same)) c.requires.may)).room

pub returns-clause-script : goal.returns-clause-script
returns-clause-script g c =
    ap (λ (s : ScriptBoard). s.script) (sym c.self.view_is ∙ found-script _ _ _ c.self.view_is c.self.invariant c.main-well.ensures.kept c.requires.same)

use Rattle.std.proofs.Common.{subst, sym, ap, ◌∙◌}
use Rattle.lane_threads.specs.Keeping.{ScriptBoard}
use Rattle.lane_threads.specs.Sections.{MayPublish}
use Rattle.lane_threads.proofs.Sections.{publish-kept, publish-later, publish-next, found-script, publish-may}
use Rattle.lane_threads.proofs.lane_board.LaneBoard.publish.Goals as goal

pub publish-requires-clause-later : goal.publish-requires-clause-later
publish-requires-clause-later g c =
    publish-later (record { script = c.self.inside.script.now; board = c.self.inside.board }) c.self.invariant _ _ (subst (λ (s : ScriptBoard). MayPublish s (g.M.MainSteps.state c.args.main.now) c.args.commit.value) (sym (found-script _ _ _ c.self.view_is c.self.invariant c.main-well.ensures.kept c.requires.same)) c.requires.may)

pub publish-requires-clause-next : goal.publish-requires-clause-next
publish-requires-clause-next g c =
    publish-next (record { script = c.self.inside.script.now; board = c.self.inside.board }) c.self.invariant _ _ (subst (λ (s : ScriptBoard). MayPublish s (g.M.MainSteps.state c.args.main.now) c.args.commit.value) (sym (found-script _ _ _ c.self.view_is c.self.invariant c.main-well.ensures.kept c.requires.same)) c.requires.may)

pub invariant_of-self : goal.invariant_of-self
invariant_of-self g c =
    publish-kept (record { script = c.self.inside.script.now; board = c.self.inside.board }) c.self.invariant _ _ (subst (λ (s : ScriptBoard). MayPublish s (g.M.MainSteps.state c.args.main.now) c.args.commit.value) (sym (found-script _ _ _ c.self.view_is c.self.invariant c.main-well.ensures.kept c.requires.same)) c.requires.may) _
    c.publish.ensures.entries c.publish.ensures.mailbox c.publish.ensures.queue c.publish.ensures.board_room

pub publish-requires-clause-room : goal.publish-requires-clause-room
publish-requires-clause-room g c = (publish-may (record { script = c.self.inside.script.now; board = c.self.inside.board }) c.self.invariant _ _ (subst (λ (s : ScriptBoard). MayPublish s (g.M.MainSteps.state c.args.main.now) c.args.commit.value) (sym (found-script _ _ _ c.self.view_is c.self.invariant c.main-well.ensures.kept c.requires.same)) c.requires.may)).room

pub returns-clause-script : goal.returns-clause-script
returns-clause-script g c =
    ap (λ (s : ScriptBoard). s.script) (sym c.self.view_is ∙ found-script _ _ _ c.self.view_is c.self.invariant c.main-well.ensures.kept c.requires.same)

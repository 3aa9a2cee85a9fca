use Rattle.std.proofs.Common.{subst, sym, ap, ◌∙◌}
use Rattle.lane_threads.specs.Keeping.{ScriptBoard}
use Rattle.lane_threads.specs.Sections.{MayDrain}
use Rattle.lane_threads.proofs.Sections.{drain-kept, drain-may, found-script}
use Rattle.lane_threads.proofs.lane_board.LaneBoard.drain.Goals as goal

pub drain-requires-clause-later : goal.drain-requires-clause-later
drain-requires-clause-later g c =
    (drain-may (record { script = c.self.inside.script.now; board = c.self.inside.board }) c.self.invariant _ (subst (λ (s : ScriptBoard). MayDrain s (g.M.MainSteps.state c.args.main.now)) (sym (found-script _ _ _ c.self.view_is c.self.invariant c.main-well.ensures.kept c.requires.same)) c.requires.may)).later

pub drain-requires-clause-batch_room : goal.drain-requires-clause-batch_room
drain-requires-clause-batch_room g c =
    (drain-may (record { script = c.self.inside.script.now; board = c.self.inside.board }) c.self.invariant _ (subst (λ (s : ScriptBoard). MayDrain s (g.M.MainSteps.state c.args.main.now)) (sym (found-script _ _ _ c.self.view_is c.self.invariant c.main-well.ensures.kept c.requires.same)) c.requires.may)).batch_room

pub drain-requires-clause-few : goal.drain-requires-clause-few
drain-requires-clause-few g c =
    (drain-may (record { script = c.self.inside.script.now; board = c.self.inside.board }) c.self.invariant _ (subst (λ (s : ScriptBoard). MayDrain s (g.M.MainSteps.state c.args.main.now)) (sym (found-script _ _ _ c.self.view_is c.self.invariant c.main-well.ensures.kept c.requires.same)) c.requires.may)).few

pub invariant_of-self : goal.invariant_of-self
invariant_of-self g c =
    drain-kept (record { script = c.self.inside.script.now; board = c.self.inside.board }) c.self.invariant _ (subst (λ (s : ScriptBoard). MayDrain s (g.M.MainSteps.state c.args.main.now)) (sym (found-script _ _ _ c.self.view_is c.self.invariant c.main-well.ensures.kept c.requires.same)) c.requires.may) _
    c.drain.ensures.entries c.drain.ensures.mailbox c.drain.ensures.queue c.drain.ensures.board_room

pub drain-requires-clause-room : goal.drain-requires-clause-room
drain-requires-clause-room g c = (drain-may (record { script = c.self.inside.script.now; board = c.self.inside.board }) c.self.invariant _ (subst (λ (s : ScriptBoard). MayDrain s (g.M.MainSteps.state c.args.main.now)) (sym (found-script _ _ _ c.self.view_is c.self.invariant c.main-well.ensures.kept c.requires.same)) c.requires.may)).room

pub returns-clause-script : goal.returns-clause-script
returns-clause-script g c =
    ap (λ (s : ScriptBoard). s.script) (sym c.self.view_is ∙ found-script _ _ _ c.self.view_is c.self.invariant c.main-well.ensures.kept c.requires.same)

use Rattle.std.proofs.Common.{◌≡◌, subst, sym}
use Rattle.anim_names.specs.Lists.{BeginsWith}
use Rattle.commit_lock.specs.Journals.{entries_of}
use Rattle.lane_threads.specs.Keeping.{ScriptBoard}
use Rattle.lane_threads.specs.Sections.{MaySendMarks}
use Rattle.lane_threads.proofs.CompositorSections.{found-send, knows-sent}
use Rattle.lane_threads.proofs.compositor_turns.send.Goals as goal

pub send-requires-clause-may : goal.send-requires-clause-may
send-requires-clause-may g c =
    subst (λ (v : ScriptBoard). MaySendMarks (record { script = c.args.script.now; board = v.board }) (g.C.CompositorSteps.state c.args.compositor.now)) (sym c.value.ensures.value)
    (found-send _ _ c.acquire-held.result.value c.acquire-held.ensures.seen c.acquire-held.ensures.mine _ _ c.requires.marked)

pub returns-clause-knows : goal.returns-clause-knows
returns-clause-knows g c =
    knows-sent _ _ c.value.result.now
    (subst (λ (v : ScriptBoard). BeginsWith v.board.entries c.args.seat.seen) (sym c.value.ensures.value) c.acquire-held.ensures.seen)
    (subst (λ (v : ScriptBoard). entries_of c.args.seat.lane v.board.entries ≡ c.args.seat.mine) (sym c.value.ensures.value) c.acquire-held.ensures.mine)
    c.send.ensures.script c.send.ensures.kept _ _ c.send.new.self
    (subst (λ (v : ScriptBoard). c.acquire-held.result.seat ≡ record c.args.seat { seen = v.board.entries }) (sym c.value.ensures.value) c.acquire-held.ensures.seat)
    c.release.ensures.seat _ _ _ c.requires.marked c.requires.news c.send.ensures.board c.send.ensures.made

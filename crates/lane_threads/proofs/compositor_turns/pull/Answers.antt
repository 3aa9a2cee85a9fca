use Rattle.std.proofs.Common.{◌≡◌, subst, sym}
use Rattle.anim_names.specs.Lists.{BeginsWith}
use Rattle.commit_lock.specs.Journals.{entries_of}
use Rattle.lane_threads.specs.Keeping.{ScriptBoard}
use Rattle.lane_threads.specs.Sections.{MayPull}
use Rattle.lane_threads.proofs.CompositorSections.{found-pull, knows-pulled}
use Rattle.lane_threads.proofs.compositor_turns.pull.Goals as goal

pub pull-found-requires-clause-may : goal.pull-found-requires-clause-may
pull-found-requires-clause-may g c =
    subst (λ (v : ScriptBoard). MayPull (record { script = c.args.script.now; board = v.board }) (g.C.CompositorSteps.state c.args.compositor.now)) (sym c.value.ensures.value)
    (found-pull _ _ c.acquire-held.result.value c.acquire-held.ensures.seen c.acquire-held.ensures.mine _ _ c.requires.knows c.requires.next)

pub returns-clause-pulled : goal.returns-clause-pulled
returns-clause-pulled g c =
    knows-pulled _ _ c.value.result.now
    (subst (λ (v : ScriptBoard). BeginsWith v.board.entries c.args.seat.seen) (sym c.value.ensures.value) c.acquire-held.ensures.seen)
    (subst (λ (v : ScriptBoard). entries_of c.args.seat.lane v.board.entries ≡ c.args.seat.mine) (sym c.value.ensures.value) c.acquire-held.ensures.mine)
    c.pull-found.ensures.script c.pull-found.ensures.kept _ _ c.pull-found.new.self
    (subst (λ (v : ScriptBoard). c.acquire-held.result.seat ≡ record c.args.seat { seen = v.board.entries }) (sym c.value.ensures.value) c.acquire-held.ensures.seat)
    c.release.ensures.seat _ _ _ _ c.requires.knows c.requires.next c.pull-found.ensures.board c.pull-found.ensures.made c.pull-found.ensures.found

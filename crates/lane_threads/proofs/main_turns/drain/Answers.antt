use Rattle.std.proofs.Common.{◌≡◌, subst, sym}
use Rattle.anim_names.specs.Lists.{BeginsWith}
use Rattle.commit_lock.specs.Journals.{entries_of}
use Rattle.lane_threads.specs.Keeping.{ScriptBoard}
use Rattle.lane_threads.specs.Sections.{MayDrain}
use Rattle.lane_threads.proofs.MainSections.{found-drain, knows-drained}
use Rattle.lane_threads.proofs.main_turns.drain.Goals as goal

pub drain-requires-clause-may : goal.drain-requires-clause-may
drain-requires-clause-may g c =
    subst (λ (v : ScriptBoard). MayDrain (record { script = c.args.script.now; board = v.board }) (g.M.MainSteps.state c.args.main.now)) (sym c.value.ensures.value)
    (found-drain _ _ c.acquire-held.result.value c.acquire-held.ensures.seen c.acquire-held.ensures.mine _ _ c.requires.knows c.requires.next)

pub returns-clause-drained : goal.returns-clause-drained
returns-clause-drained g c =
    knows-drained _ _ c.value.result.now
    (subst (λ (v : ScriptBoard). BeginsWith v.board.entries c.args.seat.seen) (sym c.value.ensures.value) c.acquire-held.ensures.seen)
    (subst (λ (v : ScriptBoard). entries_of c.args.seat.lane v.board.entries ≡ c.args.seat.mine) (sym c.value.ensures.value) c.acquire-held.ensures.mine)
    c.drain.ensures.script c.drain.ensures.kept _ _ c.drain.new.self
    (subst (λ (v : ScriptBoard). c.acquire-held.result.seat ≡ record c.args.seat { seen = v.board.entries }) (sym c.value.ensures.value) c.acquire-held.ensures.seat)
    c.release.ensures.seat _ _ _ c.requires.knows c.requires.next c.drain.ensures.board c.drain.ensures.made

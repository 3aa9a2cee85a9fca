use Rattle.std.proofs.Common.{◌≡◌, subst, sym}
use Rattle.anim_names.specs.Lists.{BeginsWith}
use Rattle.commit_lock.specs.Journals.{entries_of}
use Rattle.lane_threads.specs.Keeping.{ScriptBoard}
use Rattle.lane_threads.specs.Sections.{MayPublish}
use Rattle.lane_threads.proofs.MainSections.{found-commit, knows-published}
use Rattle.lane_threads.proofs.main_turns.publish.Goals as goal

pub publish-requires-clause-may : goal.publish-requires-clause-may
publish-requires-clause-may g c =
    subst (λ (v : ScriptBoard). MayPublish (record { script = c.args.script.now; board = v.board }) (g.M.MainSteps.state c.args.main.now) c.args.commit.value) (sym c.value.ensures.value)
    (found-commit _ _ c.acquire-held.result.value c.acquire-held.ensures.seen c.acquire-held.ensures.mine _ _ _ c.requires.built)

pub returns-clause-knows : goal.returns-clause-knows
returns-clause-knows g c =
    knows-published _ _ c.value.result.now
    (subst (λ (v : ScriptBoard). BeginsWith v.board.entries c.args.seat.seen) (sym c.value.ensures.value) c.acquire-held.ensures.seen)
    (subst (λ (v : ScriptBoard). entries_of c.args.seat.lane v.board.entries ≡ c.args.seat.mine) (sym c.value.ensures.value) c.acquire-held.ensures.mine)
    c.publish.ensures.script c.publish.ensures.kept _ _ c.publish.new.self
    (subst (λ (v : ScriptBoard). c.acquire-held.result.seat ≡ record c.args.seat { seen = v.board.entries }) (sym c.value.ensures.value) c.acquire-held.ensures.seat)
    c.release.ensures.seat _ _ _ _ c.requires.built c.publish.ensures.board c.publish.ensures.made

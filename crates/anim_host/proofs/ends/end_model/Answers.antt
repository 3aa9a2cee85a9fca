use Rattle.std.proofs.Common.{◌≡◌, Bool, true, false, not, refl, sym, ◌∙◌}
use Rattle.anim_host.proofs.BlockLemmas.{runs-after}
use Rattle.anim_host.proofs.ends.end_model.Goals as goal

twice : (b : Bool) → b ≡ not (not b)
twice true = refl
twice false = refl

pub end-requires-clause-last : goal.end-requires-clause-last
end-requires-clause-last c =
    runs-after c.args.standing.now.active.tree.models c.args.standing.now.list.marks c.args.what.now c.args.model.now
    c.vouch.ensures.fits c.requires.there c.requires.ends
    ∙ sym c.others_run-others.ensures
    ∙ twice c.others_run-others.result

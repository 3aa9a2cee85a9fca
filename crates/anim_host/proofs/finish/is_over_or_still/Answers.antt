use Rattle.tree_commit.proofs.Among.{among-has}
use Rattle.anim_host.proofs.finish.is_over_or_still.Goals as goal

pub state-requires : goal.state-requires
state-requires c =
    rw (c.id.ensures.value, ← c.requires.active) (among-has c.args.model.now c.args.active.now.tree.models c.requires.there)

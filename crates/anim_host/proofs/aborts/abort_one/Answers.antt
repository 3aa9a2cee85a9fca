use Rattle.tree_commit.proofs.Among.{among-has}
use Rattle.anim_host.proofs.aborts.abort_one.Goals as goal

pub is_lost-requires : goal.is_lost-requires
is_lost-requires c = record { there = among-has c.args.model.now c.args.standing.now.active.tree.models c.requires.there }

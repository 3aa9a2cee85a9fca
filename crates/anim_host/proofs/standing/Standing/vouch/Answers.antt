use Rattle.anim_host.proofs.standing.Standing.vouch.Goals as goal

pub returns-clause-differ : goal.returns-clause-differ
returns-clause-differ c = rw (← c.self.view_is) (rw c.deref.ensures at c.model_count.ensures.differ)

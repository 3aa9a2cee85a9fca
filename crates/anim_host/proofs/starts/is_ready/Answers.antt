use Rattle.anim_host.proofs.starts.is_ready.Goals as goal

pub is_ready-requires-clause-pending : goal.is_ready-requires-clause-pending
is_ready-requires-clause-pending c = c.pending_has_group.ensures c.args.standing.now.pending c.requires.next

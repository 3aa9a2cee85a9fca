use Rattle.std.proofs.Common.{◌≤◌}
use Rattle.std.proofs.lemmas.List.Elements.{All-push}
use Rattle.micro_time.specs.declared.TheConstants.{LONGEST_DURATION}
use Rattle.script_reader.proofs.key_list.KeyList.push_said.Goals as goal

pub invariant_of-self : goal.invariant_of-self
invariant_of-self g c = rw c.in_err-push.ensures.items c.self.invariant

pub invariant_of-self-2 : goal.invariant_of-self-2
invariant_of-self-2 g c =
    rw c.in_ok-push.ensures.items
    (All-push (λ key. key.time ≤ LONGEST_DURATION) c.self.inside.keys.items c.in-Ok.key c.self.invariant c.in-Ok.ensures.time)

-- A queue of events: all that were sent, and how many of them were heard.
use Rattle.std.specs.Prelude.{ℕ, ◌-◌, ◌≤◌, List, length, drop}
use Rattle.anim_names.specs.declared.event.AnimEvent.{AnimEvent}

-- all events that were sent, in order; how many of them were heard; and how many more can be sent without memory
pub record Queue : Type 0 where
  pub events : List AnimEvent
  pub heard : ℕ
  pub room : ℕ

-- No more is heard than was sent.
abbrev pub IsQueue : Queue → Type 0
IsQueue queue = queue.heard ≤ length queue.events

-- what was sent and is not heard
abbrev pub unheard : Queue → List AnimEvent
unheard queue = drop queue.heard queue.events

-- the queue once all is heard
abbrev pub with_all_heard : Queue → Queue
with_all_heard queue = record queue { heard = length queue.events }

-- What a board keeps beside its entries, so that no call has to look through them.
use Rattle.std.specs.Prelude.{◌≡◌, ℕ, ◌==◌, ◌^◌, ◌<◌, ◌≤◌, List, length, Option, is_none, IfSome}
use Rattle.anim_names.specs.declared.entry.Entry.{Entry}
use Rattle.anim_names.specs.declared.lane.Lane.TheVariants.{Main, Compositor}
use Rattle.event_queue.specs.Queues.{Queue}
use Rattle.tree_commit.specs.Trees.{Committed}
use Rattle.frame_exchange.specs.Journals.{published, last_pulled, last_upto, sent, drained}

pub record IsBoard (entries : List Entry) (mailbox : Option Committed) (queue : Queue) (count main compositor : ℕ) : Type 0 where
  pub of_published : count ≡ published entries
  pub of_main : main ≡ last_upto Main entries
  pub of_compositor : compositor ≡ last_upto Compositor entries
  pub counted : count ≤ main
  pub pulled : last_pulled entries ≤ count
  pub empty : is_none mailbox ≡ (published entries == last_pulled entries)
  pub newest : IfSome mailbox (λ commit. commit.number ≡ published entries)
  pub all_sent : sent entries ≡ length queue.events
  pub all_drained : drained entries ≡ queue.heard
  pub within : queue.heard ≤ length queue.events
  pub few : length queue.events < 2 ^ 32

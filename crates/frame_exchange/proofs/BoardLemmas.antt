-- What a board keeps beside its entries still goes with them once a call has made its entry.
use Rattle.std.proofs.Common.{◌≡◌, ℕ, ◌+◌, ◌-◌, ◌<◌, ◌^◌, List, [], ◌∷◌, ◌++◌, length, Option, Some, ap, sym, ◌∙◌, arith}
use Rattle.std.proofs.lemmas.Grind.{common_steps}
use Rattle.anim_names.specs.declared.entry.Entry.{Entry}
use Rattle.anim_names.specs.declared.entry.EntryKind.TheVariants.{Publish, Send, Drain}
use Rattle.anim_names.specs.declared.event.AnimEvent.{AnimEvent}
use Rattle.anim_names.specs.declared.lane.Lane.TheVariants.{Main, Compositor}
use Rattle.event_queue.specs.Queues.{Queue, unheard}
use Rattle.frame_exchange.specs.Journals.{published, last_pulled, sent, drained}
use Rattle.frame_exchange.specs.Keeping.{IsBoard}
use Rattle.tree_commit.specs.Trees.{Committed}

pub board-published : (entries : List Entry) (mailbox : Option Committed) (commit : Committed) (queue : Queue) (count main compositor upto : ℕ) → IsBoard entries mailbox queue count main compositor → main < upto → commit.number ≡ published entries + 1 → IsBoard (entries ++ record { lane = Main; upto = upto; kind = Publish (count + 1) } ∷ []) (Some commit) queue (count + 1) upto compositor
board-published entries mailbox commit queue count main compositor upto h later next =
    let after : List Entry = entries ++ record { lane = Main; upto = upto; kind = Publish (count + 1) } ∷ [] in
    let publishes : published after ≡ published entries + 1 = grind (arith, common_steps) in
    let pulls : last_pulled after ≡ last_pulled entries = grind (arith, common_steps) in
    record {
      of_published = omega (arith, publishes, h.of_published);
      of_main = grind (arith, common_steps);
      of_compositor = grind (arith, common_steps, h.of_compositor);
      counted = omega (arith, h.counted, later);
      pulled = omega (arith, pulls, h.pulled);
      empty = grind (arith, common_steps, publishes, pulls, h.pulled, h.of_published);
      newest = next ∙ sym publishes;
      all_sent = grind (arith, common_steps, h.all_sent);
      all_drained = grind (arith, common_steps, h.all_drained);
      within = h.within;
      few = h.few;
    }

pub board-sent : (entries : List Entry) (mailbox : Option Committed) (queue after_queue : Queue) (events : List AnimEvent) (count main compositor upto : ℕ) → IsBoard entries mailbox queue count main compositor → after_queue.events ≡ queue.events ++ events → after_queue.heard ≡ queue.heard → length queue.events + length events < 2 ^ 32 → IsBoard (entries ++ record { lane = Compositor; upto = upto; kind = Send (length events) } ∷ []) mailbox after_queue count main upto
board-sent entries mailbox queue after_queue events count main compositor upto h now heard few =
    let after : List Entry = entries ++ record { lane = Compositor; upto = upto; kind = Send (length events) } ∷ [] in
    let publishes : published after ≡ published entries = grind (arith, common_steps) in
    let pulls : last_pulled after ≡ last_pulled entries = grind (arith, common_steps) in
    let sends : sent after ≡ sent entries + length events = grind (arith, common_steps) in
    let many : length after_queue.events ≡ length queue.events + length events = grind (arith, common_steps, now) in
    record {
      of_published = h.of_published ∙ sym publishes;
      of_main = grind (arith, common_steps, h.of_main);
      of_compositor = grind (arith, common_steps);
      counted = h.counted;
      pulled = omega (arith, pulls, h.pulled);
      empty = rw publishes (rw pulls h.empty);
      newest = rw publishes h.newest;
      all_sent = omega (arith, sends, many, h.all_sent);
      all_drained = grind (arith, common_steps, h.all_drained, heard);
      within = omega (arith, many, heard, h.within);
      few = omega (arith, many, few);
    }

pub board-drained : (entries : List Entry) (mailbox : Option Committed) (queue after_queue : Queue) (count main compositor upto number : ℕ) → IsBoard entries mailbox queue count main compositor → main < upto → number ≡ length (unheard queue) → after_queue.events ≡ queue.events → after_queue.heard ≡ length queue.events → IsBoard (entries ++ record { lane = Main; upto = upto; kind = Drain number } ∷ []) mailbox after_queue count upto compositor
board-drained entries mailbox queue after_queue count main compositor upto number h later given now heard =
    let after : List Entry = entries ++ record { lane = Main; upto = upto; kind = Drain number } ∷ [] in
    let publishes : published after ≡ published entries = grind (arith, common_steps) in
    let pulls : last_pulled after ≡ last_pulled entries = grind (arith, common_steps) in
    let sends : sent after ≡ sent entries = grind (arith, common_steps) in
    let drains : drained after ≡ drained entries + number = grind (arith, common_steps) in
    let many : length after_queue.events ≡ length queue.events = ap length now in
    let left : number ≡ length queue.events - queue.heard = grind (arith, common_steps, given) in
    record {
      of_published = h.of_published ∙ sym publishes;
      of_main = grind (arith, common_steps);
      of_compositor = grind (arith, common_steps, h.of_compositor);
      counted = omega (arith, h.counted, later);
      pulled = omega (arith, pulls, h.pulled);
      empty = rw publishes (rw pulls h.empty);
      newest = rw publishes h.newest;
      all_sent = omega (arith, sends, many, h.all_sent);
      all_drained = omega (arith, drains, left, heard, h.all_drained, h.within);
      within = omega (arith, many, heard);
      few = omega (arith, many, h.few);
    }

-- The board between the lanes: what its calls answer and note, read off the entries that were made so far, and the word
-- that a journal stands for.
use Rattle.std.specs.Prelude.{◌≡◌, ℕ, ◌+◌, ◌-◌, ◌==◌, ◌≤◌, Bool, true, false, ◌||◌, if◌then◌else◌, List, [], ◌++◌, fold, count_by, sum_by, replicate, length, Option, Some, None, is_none, IfSome, unwrap_or}
use Rattle.anim_names.specs.declared.entry.Entry.{Entry}
use Rattle.anim_names.specs.declared.entry.EntryKind.{EntryKind}
use Rattle.anim_names.specs.declared.entry.EntryKind.TheVariants.{Publish, Pull, Send, Drain}
use Rattle.anim_names.specs.declared.event.AnimEvent.{AnimEvent}
use Rattle.anim_names.specs.declared.lane.Lane.{Lane}
use Rattle.anim_names.specs.declared.lane.Lane.TheVariants.{Main, Compositor}
use Rattle.anim_names.specs.Lanes.{letters_of}
use Rattle.commit_lock.specs.Journals.{entries_of}
use Rattle.event_queue.specs.Queues.{Queue, unheard}
use Rattle.frame_exchange.specs.declared.board.PendingSlot.{PendingSlot}
use Rattle.frame_exchange.specs.declared.board.PendingSlot.TheVariants.{Free, Taken}
use Rattle.tree_commit.specs.Trees.{Committed}

-- ---- what the entries so far say

abbrev pub is_publish : EntryKind → Bool
is_publish (Publish number) = true
is_publish (Pull number) = false
is_publish (Send count) = false
is_publish (Drain count) = false

-- how many commits were published, which is the number of the newest
abbrev pub published : List Entry → ℕ
published entries = count_by (λ entry. is_publish entry.kind) entries

-- the number that was pulled last, after one more entry
abbrev pub pulled_after : ℕ → EntryKind → ℕ
pulled_after last (Publish number) = last
pulled_after last (Pull number) = unwrap_or number last
pulled_after last (Send count) = last
pulled_after last (Drain count) = last

-- the number of the commit that was pulled last, 0 at first
abbrev pub last_pulled : List Entry → ℕ
last_pulled entries = fold (λ last entry. pulled_after last entry.kind) 0 entries

-- how many events an entry sent
abbrev pub sent_by : EntryKind → ℕ
sent_by (Publish number) = 0
sent_by (Pull number) = 0
sent_by (Send count) = count
sent_by (Drain count) = 0

-- how many events an entry drained
abbrev pub drained_by : EntryKind → ℕ
drained_by (Publish number) = 0
drained_by (Pull number) = 0
drained_by (Send count) = 0
drained_by (Drain count) = count

-- how many events were sent
abbrev pub sent : List Entry → ℕ
sent entries = sum_by (λ entry. sent_by entry.kind) entries

-- how many events main has drained
abbrev pub drained : List Entry → ℕ
drained entries = sum_by (λ entry. drained_by entry.kind) entries

-- up to which of its steps a lane has made entries, 0 at first
abbrev pub last_upto : Lane → List Entry → ℕ
last_upto lane entries = fold (λ last entry. entry.upto) 0 (entries_of lane entries)

-- ---- the board

-- All entries in order; the mailbox, in which the newest published commit lies until it is pulled; the events that were
-- sent and how many of them were drained; and how many entries can still be made without memory.
pub record Exchange : Type 0 where
  pub entries : List Entry
  pub mailbox : Option Committed
  pub queue : Queue
  pub room : ℕ

-- What is true of every board. No number is pulled that was not published. The mailbox is empty exactly where the newest
-- is pulled already, and what lies in it is the commit that was published last. The entries count the events.
pub record IsExchange (board : Exchange) : Type 0 where
  pub pulled_within : last_pulled board.entries ≤ published board.entries
  pub empty : is_none board.mailbox ≡ (published board.entries == last_pulled board.entries)
  pub newest : IfSome board.mailbox (λ commit. commit.number ≡ published board.entries)
  pub all_sent : sent board.entries ≡ length board.queue.events
  pub all_drained : drained board.entries ≡ board.queue.heard

abbrev pub is_taken : PendingSlot → Bool
is_taken Free = false
is_taken Taken = true

-- a pull finds nothing: a commit is pending, or the newest is pulled already
abbrev pub finds_nothing : List Entry → PendingSlot → Bool
finds_nothing entries pending = is_taken pending || published entries == last_pulled entries

-- what a pull gives
abbrev pub reply_to_pull : Exchange → PendingSlot → Option Committed
reply_to_pull board pending = if finds_nothing board.entries pending then None else board.mailbox

-- what a pull leaves in the mailbox
abbrev pub mailbox_after_pull : Exchange → PendingSlot → Option Committed
mailbox_after_pull board pending = if finds_nothing board.entries pending then board.mailbox else None

-- ---- the entries of the calls

-- A commit gets the number after the last one published.
abbrev pub publish_entry : List Entry → ℕ → Entry
publish_entry entries upto = record { lane = Main; upto = upto; kind = Publish (published entries + 1) }

-- the number of the commit that a pull gives
abbrev pub pulled_number : List Entry → PendingSlot → Option ℕ
pulled_number entries pending = if finds_nothing entries pending then None else Some (published entries)

abbrev pub pull_entry : List Entry → ℕ → PendingSlot → Entry
pull_entry entries upto pending = record { lane = Compositor; upto = upto; kind = Pull (pulled_number entries pending) }

abbrev pub send_entry : ℕ → List AnimEvent → Entry
send_entry upto events = record { lane = Compositor; upto = upto; kind = Send (length events) }

-- A drain takes all events that no drain has taken.
abbrev pub drain_entry : Exchange → ℕ → Entry
drain_entry board upto = record { lane = Main; upto = upto; kind = Drain (length (unheard board.queue)) }

-- ---- the word of a journal

-- the word with letters of the lane behind it, until the lane has this many
abbrev pub filled : Lane → ℕ → List Lane → List Lane
filled lane upto word = word ++ replicate (upto - letters_of lane word) lane

-- for each entry in order, letters of its lane until that lane has as many as the entry says steps were made
abbrev pub word_so_far : List Entry → List Lane
word_so_far entries = fold (λ word entry. filled entry.lane entry.upto word) [] entries

-- The word of a journal, for lanes of these numbers of steps: behind the word so far come the rest of main's letters and then
-- the rest of the compositor's.
unfoldable pub word_of_journal : List Entry → ℕ → ℕ → List Lane
word_of_journal entries main compositor = filled Compositor compositor (filled Main main (word_so_far entries))

-- What contracts see of seats and of sections.
use Rattle.std.specs.Prelude.{ℕ, List, []}
use Rattle.atomic_table.specs.Seated.{TableId}
use Rattle.anim_names.specs.declared.lane.Lane.{Lane}
use Rattle.anim_names.specs.declared.entry.Entry.{Entry}
use Rattle.commit_lock.specs.declared.view.View.{View}
use Rattle.commit_lock.specs.Journals.{entries_of}

-- a lane's seat: of which lock and lane it is, what the journal is about, the journal at its last section, and its own entries
pub record SeatState : Type 0 where
  pub lock : TableId
  pub lane : Lane
  pub subject : List ℕ
  pub seen : List Entry
  pub mine : List Entry

-- a section under way: the seat that makes it, which has seen the journal at its start, and the value
pub record Section (V : Type 0) : Type 0 where
  pub seat : SeatState
  pub value : V

-- a lane's seat before its first section
abbrev pub fresh_seat : TableId → Lane → List ℕ → SeatState
fresh_seat lock lane subject = record { lock = lock; lane = lane; subject = subject; seen = []; mine = [] }

-- the seat after a section that left this journal: it has seen all of it, and its own is what the journal has of its lane
abbrev pub seat_after : SeatState → List Entry → SeatState
seat_after seat journal = record {
  lock = seat.lock;
  lane = seat.lane;
  subject = seat.subject;
  seen = journal;
  mine = entries_of seat.lane journal;
}

-- what a view shows of its lane's seat
abbrev pub seat_state : TableId → View → SeatState
seat_state lock v = record { lock = lock; lane = v.lane; subject = v.own.subject; seen = v.own.seen; mine = v.own.mine }

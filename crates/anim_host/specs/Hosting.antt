-- What a host has, and what each of its calls makes of it.
use Rattle.std.specs.Prelude.{ℕ, if◌then◌else◌, List, [], ◌++◌, Option, Some, None}
use Rattle.run_rules.specs.declared.mark.Mark.{Mark}
use Rattle.tree_commit.specs.declared.shown.Shown.{Shown}
use Rattle.tree_commit.specs.Trees.{Committed, empty_commit, has_model}
use Rattle.run_rules.specs.Marks.{marks_of_tick, marks_of_activation}
use Rattle.run_rules.specs.Frames.{shown_by}
use Rattle.run_rules.specs.Follows.{KnowsAtMost}

-- The active commit and perhaps a pending one; all marks so far; how many of them there were when the news were
-- cleared; the time of the last tick; and for how many keyframe models the host was made.
pub record Hosting : Type 0 where
  pub active : Committed
  pub pending : Option Committed
  pub marks : List Mark
  pub cleared : ℕ
  pub last_tick : ℕ
  pub models : ℕ

-- a host before any call
abbrev pub new_hosting : ℕ → Hosting
new_hosting models = record {
  active = empty_commit;
  pending = None;
  marks = [];
  cleared = 0;
  last_tick = 0;
  models = models;
}

-- this commit is the pending one
abbrev pub hosting_after_push : Hosting → Committed → Hosting
hosting_after_push host commit = record host { pending = Some commit }

-- The pending commit is the active one, and what is lost is aborted.
abbrev pub hosting_after_activation : Hosting → Committed → Hosting
hosting_after_activation host pending = record host {
  active = pending;
  pending = None;
  marks = host.marks ++ marks_of_activation host.active.tree pending host.marks;
}

-- Groups have finished, and others have started.
abbrev pub hosting_after_tick : Hosting → ℕ → Hosting
hosting_after_tick host time = record host {
  marks = host.marks ++ marks_of_tick host.active.tree host.pending host.marks time;
  last_tick = time;
}

-- What the host shows of a model: what its marks say, of the models of the active commit alone.
abbrev pub shown_in : Hosting → ℕ → Option Shown
shown_in host id = if has_model host.active.tree id then shown_by host.marks id else None

-- The models that have a mark, are in the active commit or are in this one are together at most those that the host
-- was made for.
abbrev pub HasRoomToPush : Hosting → Committed → Type 0
HasRoomToPush host commit = KnowsAtMost host.models host.active.tree commit.tree host.marks

-- Journals: entries that two lanes made, in one order.
use Rattle.std.specs.Prelude.{◌≡◌, List, ◌++◌, filter, All}
use Rattle.anim_names.specs.declared.lane.Lane.{Lane}
use Rattle.anim_names.specs.declared.entry.Entry.{Entry}
use Rattle.anim_names.specs.Lanes.{is_lane}

-- the entries of one lane, in their order
abbrev pub entries_of : Lane → List Entry → List Entry
entries_of lane journal = filter (λ e. is_lane lane e.lane) journal

-- the new journal is the old one, followed by entries of this lane alone
pub record IsGrownBy (lane : Lane) (old new : List Entry) : Type 0 where
  pub added : List Entry
  pub grown : new ≡ old ++ added
  pub own : All (λ e. e.lane ≡ lane) added

-- whatever was added to the old journal to make the new one, `after` is `before` with just that added
abbrev pub GrowsAlike : List Entry → List Entry → List Entry → List Entry → Type 0
GrowsAlike old new before after = (added : List Entry) → new ≡ old ++ added → after ≡ before ++ added

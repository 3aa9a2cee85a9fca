-- What is kept of one element.
use Rattle.std.specs.Prelude.{ℕ, ◌==◌, Bool, false, not, ◌||◌, if◌then◌else◌, Option, Some, None, is_some}
use Rattle.anim_names.specs.declared.lane.Tree.{Tree}
use Rattle.anim_names.specs.declared.lane.Tree.TheVariants.{Pending, Active}
use Rattle.anim_names.specs.declared.property.Property.{Property}
use Rattle.anim_names.specs.declared.per_property.PerProperty.{PerProperty}
use Rattle.anim_names.specs.Properties.{at, every, for_each, is_some_at, put}

-- Whether the pending and the active tree have the element, and the group that blocks each of its properties.
pub record Row : Type 0 where
  pub pending : Bool
  pub active : Bool
  pub blockers : PerProperty (Option ℕ)

-- the row of these parts
abbrev pub row_parts : Bool → Bool → PerProperty (Option ℕ) → Row
row_parts pending active blockers = record { pending = pending; active = active; blockers = blockers }

-- the element is in neither tree, and nothing of it is blocked
abbrev pub idle_row : Row
idle_row = record { pending = false; active = false; blockers = every None }

-- the element of the row is in the tree
abbrev pub is_in_tree : Tree → Row → Bool
is_in_tree Pending row = row.pending
is_in_tree Active row = row.active

-- the group that blocks the property of the row's element
abbrev pub blocker_in : Row → Property → Option ℕ
blocker_in row property = at row.blockers property

-- the row says nothing, so it is not kept
abbrev pub is_idle : Row → Bool
is_idle row = not (row.pending || row.active || is_some_at is_some row.blockers)

-- the row with what it says of one tree changed
abbrev pub with_presence : Row → Tree → Bool → Row
with_presence row Pending there = record row { pending = there }
with_presence row Active there = record row { active = there }

-- the row with the blocker of one property changed
abbrev pub with_blocker : Row → Property → Option ℕ → Row
with_blocker row property blocker = record row { blockers = put row.blockers property blocker }

-- the group is this one
abbrev pub is_blocked_by : ℕ → Option ℕ → Bool
is_blocked_by group None = false
is_blocked_by group (Some blocker) = group == blocker

-- what blocks a property once the group does not
abbrev pub unless_by : ℕ → Option ℕ → Option ℕ
unless_by group blocker = if is_blocked_by group blocker then None else blocker

-- the row with this property not blocked by the group
abbrev pub freed : ℕ → Row → Property → Row
freed group row property = with_blocker row property (unless_by group (blocker_in row property))

-- the row with no property blocked by the group
abbrev pub without_blocker : Row → ℕ → Row
without_blocker row group = record row { blockers = for_each (λ property. unless_by group (at row.blockers property)) }

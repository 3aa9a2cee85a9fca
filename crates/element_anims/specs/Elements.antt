-- Which elements are in the pending and in the active tree, and which group blocks each property of an element.
use Rattle.std.specs.Prelude.{◌≡◌, ℕ, ◌<◌, ◌==◌, nat_eq, Bool, true, false, not, ◌&&◌, if◌then◌else◌, List, Option, None}
use Rattle.std.specs.Option.{unwrap_or}
use Rattle.std.specs.Map.{lookup}
use Rattle.anim_names.specs.declared.lane.Tree.{Tree}
use Rattle.anim_names.specs.declared.lane.Tree.TheVariants.{Pending, Active}
use Rattle.anim_names.specs.declared.property.Property.{Property}
use Rattle.anim_names.specs.Properties.{is_property}
use Rattle.element_anims.specs.Rows.{Row, idle_row, is_idle, is_in_tree, blocker_in, unless_by}

-- ---- what is kept

-- The rows by element, and how many elements more there is room for. An element without a row is in neither tree, and
-- nothing of it is blocked.
pub record Anims : Type 0 where
  pub rows : List (ℕ × Row)
  pub room : ℕ

abbrev pub row_in : List (ℕ × Row) → ℕ → Row
row_in rows element = unwrap_or (lookup (nat_eq element) rows) idle_row

abbrev pub row_of : Anims → ℕ → Row
row_of table element = row_in table.rows element

-- ---- what it says

-- the element is in the tree
abbrev pub is_present : Anims → Tree → ℕ → Bool
is_present table tree element = is_in_tree tree (row_of table element)

-- the group that blocks the property of the element
abbrev pub blocker_of : Anims → ℕ → Property → Option ℕ
blocker_of table element property = blocker_in (row_of table element) property

-- the element is in a tree, or a property of it is blocked
abbrev pub is_known : Anims → ℕ → Bool
is_known table element = not (is_idle (row_of table element))

-- no row is kept that says nothing
abbrev pub KeepsNoIdleRow : List (ℕ × Row) → Type 0
KeepsNoIdleRow rows = (element : ℕ) → is_idle (row_in rows element) ≡ true → lookup (nat_eq element) rows ≡ None

-- ---- what the calls make of it

-- both are the same tree
abbrev pub is_tree : Tree → Tree → Bool
is_tree Pending Pending = true
is_tree Pending Active = false
is_tree Active Pending = false
is_tree Active Active = true

-- What is said of the element is kept without memory: the element is known, or there is room for one more.
abbrev pub HasRoomForElement : Anims → ℕ → Type 0
HasRoomForElement table element = is_known table element ≡ false → 0 < table.room

-- The new table says of the element whether this tree has it; all else is as it was.
pub record IsSetPresent (tree : Tree) (element : ℕ) (there : Bool) (old new : Anims) : Type 0 where
  pub presence : (t : Tree) (e : ℕ)
      → is_present new t e ≡ (if is_tree tree t && element == e then there else is_present old t e)
  pub blocks : (e : ℕ) (p : Property) → blocker_of new e p ≡ blocker_of old e p

-- The new table says of the property of the element which group blocks it, if any does; all else is as it was.
pub record IsSetBlocker (element : ℕ) (property : Property) (blocker : Option ℕ) (old new : Anims) : Type 0 where
  pub presence : (t : Tree) (e : ℕ) → is_present new t e ≡ is_present old t e
  pub blocks : (e : ℕ) (p : Property)
      → blocker_of new e p ≡ (if element == e && is_property property p then blocker else blocker_of old e p)

-- Of this element the group blocks nothing any more; all else is as it was.
pub record IsUnblocked (element group : ℕ) (old new : Anims) : Type 0 where
  pub presence : (t : Tree) (e : ℕ) → is_present new t e ≡ is_present old t e
  pub blocks : (e : ℕ) (p : Property)
      → blocker_of new e p ≡ (if element == e then unless_by group (blocker_of old e p) else blocker_of old e p)

-- Both say the same.
pub record SaysTheSame (old new : Anims) : Type 0 where
  pub presence : (t : Tree) (e : ℕ) → is_present new t e ≡ is_present old t e
  pub blocks : (e : ℕ) (p : Property) → blocker_of new e p ≡ blocker_of old e p

-- how much room it may take to say something of the element: none where it is known
abbrev pub room_for : Anims → ℕ → ℕ
room_for table element = if is_known table element then 0 else 1

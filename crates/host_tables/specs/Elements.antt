-- Which elements the table says are in the two trees.
use Rattle.std.specs.Prelude.{◌≡◌, ℕ, ◌==◌, ◌&&◌, Bool, false, if◌then◌else◌, List, Option, Some, None}
use Rattle.std.specs.List.{list_any}
use Rattle.anim_names.specs.declared.lane.Tree.{Tree}
use Rattle.anim_names.specs.declared.lane.Tree.TheVariants.{Pending, Active}
use Rattle.anim_names.specs.declared.property.Property.{Property}
use Rattle.element_anims.specs.Elements.{Anims, blocker_of, is_present, is_tree}
use Rattle.tree_commit.specs.Trees.{Committed, Element, has_element}

-- one of the elements has this id
abbrev pub is_listed : List Element → ℕ → Bool
is_listed elements id = list_any (λ element. id == element.id) elements

-- the pending commit has the element
abbrev pub pending_has_element : Option Committed → ℕ → Bool
pending_has_element None id = false
pending_has_element (Some commit) id = has_element commit.tree id

-- the commit in this tree has the element
abbrev pub has_in : Tree → Committed → Option Committed → ℕ → Bool
has_in Active active pending id = has_element active.tree id
has_in Pending active pending id = pending_has_element pending id

-- The table says of these elements whether this tree has them; all else is as it was.
pub record AreSet (tree : Tree) (elements : List Element) (there : Bool) (old new : Anims) : Type 0 where
  pub presence : (t : Tree) (e : ℕ) → is_present new t e ≡ (if is_tree tree t && is_listed elements e then there else is_present old t e)
  pub blocks : (e : ℕ) (p : Property) → blocker_of new e p ≡ blocker_of old e p

-- The table says which elements are in the active commit and which in the pending one.
pub record PresenceStands (table : Anims) (active : Committed) (pending : Option Committed) : Type 0 where
  pub of_active : (e : ℕ) → is_present table Active e ≡ has_element active.tree e
  pub of_pending : (e : ℕ) → is_present table Pending e ≡ pending_has_element pending e

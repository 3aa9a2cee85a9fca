-- Whether a group may start, by its row and by the table of elements.
use Rattle.std.specs.Prelude.{ℕ, Bool, false, not, ◌==◌, ◌&&◌, ◌||◌, nat_lt, Option, Some, None}
use Rattle.std.specs.List.{list_any}
use Rattle.anim_names.specs.declared.lane.Tree.TheVariants.{Pending, Active}
use Rattle.anim_names.specs.declared.property.Property.{Property}
use Rattle.anim_names.specs.declared.property.TheConstants.{PROPERTIES}
use Rattle.anim_names.specs.Properties.{at}
use Rattle.element_anims.specs.Elements.{Anims, is_present, blocker_of}
use Rattle.keyframe_effect.specs.declared.group.GroupRow.{GroupRow}

-- a group other than this one
abbrev pub is_other : ℕ → Option ℕ → Bool
is_other group None = false
is_other group (Some blocker) = not (group == blocker)

-- another group blocks the property of the element
abbrev pub is_blocked_for : Anims → ℕ → ℕ → Property → Bool
is_blocked_for table group element property = is_other group (blocker_of table element property)

-- another group blocks a property that the models of the row's group animate
abbrev pub is_some_blocked : GroupRow → Anims → Bool
is_some_blocked row table =
    list_any (λ property. at row.animates property && is_blocked_for table row.group row.element property) PROPERTIES

-- the element is in the active tree and, where it is asked for, in the pending one
abbrev pub is_there : Anims → ℕ → Bool → Bool
is_there table element pending_has =
    is_present table Active element && (not pending_has || is_present table Pending element)

-- The group is ready: models of it wait, its element is in the active tree and, where the pending commit has a model
-- of the group, in the pending tree too, and no other group blocks a property of its models.
unfoldable pub is_ready : GroupRow → Anims → Bool → Bool
is_ready row table pending_has =
    nat_lt 0 row.waiting
    && is_there table row.element pending_has
    && not (is_some_blocked row table)

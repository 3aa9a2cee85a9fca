-- Whether a group may start: that its row says so is the rule.
use Rattle.std.specs.Prelude.{◌≡◌, ℕ, List, Option, Some}
use Rattle.element_anims.specs.Elements.{Anims}
use Rattle.keyframe_effect.specs.declared.group.GroupRow.{GroupRow}
use Rattle.keyframe_effect.specs.Ready as effect
use Rattle.tree_commit.specs.Trees.{Committed}
use Rattle.run_rules.specs.declared.mark.Mark.{Mark}
use Rattle.run_rules.specs.Marks.{is_ready}
use Rattle.host_tables.specs.Blocks.{BlocksStand}
use Rattle.host_tables.specs.Elements.{PresenceStands}
use Rattle.host_tables.specs.Groups.{group_row_of}
use Rattle.anim_host.specs.Fits.{AreSettled, MarksFitModels}
use Rattle.anim_host.specs.Standing.{pending_has_group}

-- Where the table of elements and the row of a group stand for the commits and the marks of whole steps, the group is ready
-- by its row exactly where it is ready by its models.
abbrev pub ReadyIsTheRule : Type 0
ReadyIsTheRule =
    (table : Anims) (active : Committed) (pending : Option Committed) (marks : List Mark) (group : ℕ) (row : GroupRow)
    → PresenceStands table active pending
    → BlocksStand table marks
    → MarksFitModels active.tree.models marks
    → AreSettled active.tree.models marks
    → group_row_of active.tree.models marks group ≡ Some row
    → effect.is_ready row table (pending_has_group pending group) ≡ is_ready active.tree pending marks group

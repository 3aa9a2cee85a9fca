-- Which group the table says blocks each property of each element.
use Rattle.std.specs.Prelude.{◌≡◌, ℕ, List}
use Rattle.anim_names.specs.declared.property.Property.{Property}
use Rattle.element_anims.specs.Rows.{is_blocked_by}
use Rattle.element_anims.specs.Elements.{Anims, blocker_of}
use Rattle.run_rules.specs.declared.mark.Mark.{Mark}
use Rattle.run_rules.specs.Marks.{blocks}

-- The table says of each property of each element which group blocks it.
abbrev pub BlocksStand : Anims → List Mark → Type 0
BlocksStand table marks =
    (group element : ℕ) (property : Property) → is_blocked_by group (blocker_of table element property) ≡ blocks marks group element property

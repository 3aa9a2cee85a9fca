-- Properties, and one value for each of them.
use Rattle.std.specs.Prelude.{Bool, true, false}
use Rattle.std.specs.List.{list_any}
use Rattle.anim_names.specs.declared.property.TheConstants.{PROPERTIES}
use Rattle.anim_names.specs.declared.property.Property.{Property}
use Rattle.anim_names.specs.declared.property.Property.TheVariants.{Opacity, Transform}
use Rattle.anim_names.specs.declared.per_property.PerProperty.{PerProperty}

-- the two are one property: a line for each property, and no other two are
abbrev pub is_property : Property → Property → Bool
is_property Opacity Opacity = true
is_property Transform Transform = true
is_property _ _ = false

-- the value of a property
abbrev pub at : {A : Type 0} → PerProperty A → Property → A
at values Opacity = values.opacity
at values Transform = values.transform

-- the values with another one for a property
abbrev pub put : {A : Type 0} → PerProperty A → Property → A → PerProperty A
put values Opacity value = record values { opacity = value }
put values Transform value = record values { transform = value }

-- one value for each property, made by a function of the property
abbrev pub for_each : {A : Type 0} → (Property → A) → PerProperty A
for_each value = record { opacity = value Opacity; transform = value Transform }

-- the same value for each property
abbrev pub every : {A : Type 0} → A → PerProperty A
every value = for_each (λ property. value)

-- a test is passed by the value of some property
abbrev pub is_some_at : {A : Type 0} → (A → Bool) → PerProperty A → Bool
is_some_at test values = list_any (λ property. test (at values property)) PROPERTIES

-- One value for each property: what is there once one was put in.
use Rattle.std.proofs.Common.{◌≡◌, Bool, true, false, ◌&&◌, ◌||◌, if◌then◌else◌, refl}
use Rattle.std.specs.List.{list_any}
use Rattle.anim_names.specs.declared.property.TheConstants.{PROPERTIES}
use Rattle.anim_names.specs.declared.property.Property.{Property}
use Rattle.anim_names.specs.declared.property.Property.TheVariants.{Opacity, Transform}
use Rattle.anim_names.specs.declared.per_property.PerProperty.{PerProperty}
use Rattle.anim_names.specs.Properties.{is_property, at, put, for_each, is_some_at}

-- a property is itself
pub is_property-same : (property : Property) → is_property property property ≡ true
is_property-same Opacity = refl
is_property-same Transform = refl

-- two properties that the test tells to be one are one
pub is_property-one : (one other : Property) → is_property one other ≡ true → one ≡ other
is_property-one Opacity Opacity is = refl
is_property-one Transform Transform is = refl
is_property-one Opacity Transform is = cc
is_property-one Transform Opacity is = cc

-- in either order
pub is_property-flip : (one other : Property) → is_property one other ≡ is_property other one
is_property-flip Opacity Opacity = refl
is_property-flip Opacity Transform = refl
is_property-flip Transform Opacity = refl
is_property-flip Transform Transform = refl

-- what was put in is there, and all else is as it was
pub at-put : {A : Type 0} (values : PerProperty A) (property other : Property) (value : A)
    → at (put values property value) other ≡ (if is_property property other then value else at values other)
at-put values Opacity Opacity value = refl
at-put values Opacity Transform value = refl
at-put values Transform Opacity value = refl
at-put values Transform Transform value = refl

-- what was made by a function is that function's
pub at-for_each : {A : Type 0} (f : Property → A) (property : Property) → at (for_each f) property ≡ f property
at-for_each f Opacity = refl
at-for_each f Transform = refl

-- values that are the same for each property are the same
pub same-at : {A : Type 0} (values others : PerProperty A)
    → ((property : Property) → at values property ≡ at others property) → values ≡ others
same-at values others same = λ i. record { opacity = same Opacity i; transform = same Transform i }

-- some value passes where that of one property does
pub is_some_at-from : {A : Type 0} (test : A → Bool) (values : PerProperty A) (property : Property)
    → test (at values property) ≡ true → is_some_at test values ≡ true
is_some_at-from test values Opacity is = by (test values.opacity) is
  where
    by : (b : Bool) → b ≡ true → (b || (test values.transform || false)) ≡ true
    by true h = refl
    by false h = cc
is_some_at-from test values Transform is = by (test values.opacity) (test values.transform) is
  where
    by : (a b : Bool) → b ≡ true → (a || (b || false)) ≡ true
    by true b h = refl
    by false true h = refl
    by false false h = cc

-- of all properties a test that asks for one is the test of that one
pub any-of_one : (test : Property → Bool) (property : Property)
    → list_any (λ other. is_property property other && test other) PROPERTIES ≡ test property
any-of_one test Opacity = by (test Opacity)
  where
    by : (b : Bool) → (b || (false || false)) ≡ b
    by true = refl
    by false = refl
any-of_one test Transform = by (test Transform)
  where
    by : (b : Bool) → (false || (b || false)) ≡ b
    by true = refl
    by false = refl

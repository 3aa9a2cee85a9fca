-- The value that counts, as one model of an element after the other is looked at.
use Rattle.std.specs.Prelude.{ℕ, nat_lt, Bool, true, Option, Some, None, option_map, if◌then◌else◌}
use Rattle.anim_names.specs.declared.property.Property.{Property}
use Rattle.keyframe_model.specs.Models.{Spec, PropertyValue}
use Rattle.tree_commit.specs.declared.shown.Shown.{Shown}
use Rattle.tree_commit.specs.Trees.{TreeLists}
use Rattle.run_rules.specs.Frames as frames

-- its value
abbrev pub value_in : Option frames.Given → Option PropertyValue
value_in best = option_map (λ given. given.value) best

-- nothing counts yet, or a start of a lower order
abbrev pub is_older : Option frames.Given → ℕ → Bool
is_older None order = true
is_older (Some best) order = nat_lt best.order order

-- what counts beside one more value, where a model gives one
abbrev pub beside : Option frames.Given → Option frames.Given → Option frames.Given
beside best None = best
beside best (Some new) = frames.later_of best new

-- what counts once one more model was looked at
abbrev pub best_with : TreeLists → (ℕ → Option Shown) → ℕ → ℕ → Property → Option frames.Given → Spec → Option frames.Given
best_with tree shown tick element property best model =
    if frames.animates element property model then beside best (frames.given_by tree tick model (shown model.id)) else best

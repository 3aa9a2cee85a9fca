-- What counts of each property of an element, while the element's own models are looked at.
use Rattle.std.specs.Prelude.{ℕ, ◌≤◌, unsigned_abs, List, fold, All, Option, None, IfSome, if◌then◌else◌}
use Rattle.anim_names.specs.declared.property.Property.{Property}
use Rattle.anim_names.specs.Properties.{is_property}
use Rattle.keyframe_model.specs.Models.{Spec, PropertyValue, property_of}
use Rattle.micro_time.specs.declared.TheConstants.{LARGEST_LOCAL}
use Rattle.tree_commit.specs.declared.shown.Shown.{Shown}
use Rattle.run_rules.specs.Frames.{Given, given_by}
use Rattle.element_samples.specs.Samples.{beside, value_in}
use Rattle.tree_commit.specs.Trees.{TreeLists, local_time}

-- what counts of a property once one more model of the element was looked at
abbrev pub counts_with : TreeLists → (ℕ → Option Shown) → ℕ → Property → Option Given → Spec → Option Given
counts_with tree shown tick property best model =
    if is_property property (property_of model) then beside best (given_by tree tick model (shown model.id)) else best

-- what counts of a property once these models of the element were looked at
abbrev pub counts_of : TreeLists → (ℕ → Option Shown) → ℕ → Property → List Spec → Option Given
counts_of tree shown tick property models = fold (counts_with tree shown tick property) None models

-- the animated value of a property, where these models are those of the element
abbrev pub animated_by : TreeLists → (ℕ → Option Shown) → ℕ → List Spec → Property → Option PropertyValue
animated_by tree shown tick models property = value_in (counts_of tree shown tick property models)

-- Each of these models that is shown has a local time, at the tick, for which timings are defined.
abbrev pub LocalTimesFitOf : List Spec → TreeLists → (ℕ → Option Shown) → ℕ → Type 0
LocalTimesFitOf models tree shown tick =
    All (λ model. IfSome (shown model.id) (λ s. unsigned_abs (local_time tree tick model s) ≤ LARGEST_LOCAL)) models

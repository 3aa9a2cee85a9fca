-- Frames: what each element of the active commit shows at a tick.
use Rattle.std.specs.Prelude.{ℕ, ◌==◌, ◌≤◌, nat_lt, Bool, ◌&&◌, if◌then◌else◌, unsigned_abs, List, map, filter, filter_map, fold, All, Option, Some, None, IfSome, option_map}
use Rattle.anim_names.specs.declared.property.Property.{Property}
use Rattle.anim_names.specs.declared.property.TheConstants.{PROPERTIES}
use Rattle.anim_names.specs.Properties.{is_property}
use Rattle.micro_time.specs.declared.TheConstants.{LARGEST_LOCAL}
use Rattle.keyframe_model.specs.Models.{Spec, PropertyValue, property_of, model_value}
use Rattle.run_rules.specs.declared.mark.Mark.{Mark}
use Rattle.tree_commit.specs.declared.shown.Shown.{Shown}
use Rattle.tree_commit.specs.Trees.{Element, Look, TreeLists, Committed, local_time, set_own}
use Rattle.run_rules.specs.Marks.{is_aborted, start_of}

-- ---- frames

-- what one element shows
pub record DrawnRow : Type 0 where
  pub element : ℕ
  pub look : Look

-- a frame: its tick, the number of the commit that it shows, and a row for each element of that commit, in order
pub record DrawnFrame : Type 0 where
  pub time : ℕ
  pub commit : ℕ
  pub rows : List DrawnRow

-- ---- the value that counts

-- what the marks show of a model: nothing before it is started and once it is aborted
abbrev pub shown_by : List Mark → ℕ → Option Shown
shown_by marks id = if is_aborted marks id then None else start_of marks id

-- a value that a model gives, and the index of the mark of its start
pub record Given : Type 0 where
  pub value : PropertyValue
  pub order : ℕ

-- what a model gives at a tick, by what is shown of it
abbrev pub given_by : TreeLists → ℕ → Spec → Option Shown → Option Given
given_by tree tick model None = None
given_by tree tick model (Some shown) =
    option_map (λ value. record { value = value; order = shown.order })
    (model_value model (local_time tree tick model shown))

-- Each model that is shown has a local time, at the tick, for which timings are defined.
abbrev pub LocalTimesFit : TreeLists → (ℕ → Option Shown) → ℕ → Type 0
LocalTimesFit tree shown tick =
    All (λ model. IfSome (shown model.id) (λ s. unsigned_abs (local_time tree tick model s) ≤ LARGEST_LOCAL)) tree.models

-- of two, that of the model that started later; where both have one index, the first
abbrev pub later_of : Option Given → Given → Option Given
later_of None new = Some new
later_of (Some best) new = if nat_lt best.order new.order then Some new else Some best

abbrev pub latest_of : List Given → Option Given
latest_of givens = fold later_of None givens

-- the model animates this property of this element
abbrev pub animates : ℕ → Property → Spec → Bool
animates element property model = element == model.element && is_property property (property_of model)

-- the models that animate a property of an element, in the tree's order
abbrev pub animators : TreeLists → ℕ → Property → List Spec
animators tree element property = filter (animates element property) tree.models

-- The animated value of a property of an element: of the models that give one, that of the model that started last.
unfoldable pub animated_value : TreeLists → (ℕ → Option Shown) → ℕ → ℕ → Property → Option PropertyValue
animated_value tree shown tick element property =
    option_map (λ given. given.value)
    (latest_of (filter_map (λ model. given_by tree tick model (shown model.id)) (animators tree element property)))

-- ---- rows and frames

-- the look with an animated value in the place of the own one, where there is one
abbrev pub show : Look → Option PropertyValue → Look
show look None = look
show look (Some value) = set_own look value

-- the look with an animated value of each property in the place of the own one, where there is one
abbrev pub shown_with : (Property → Option PropertyValue) → Look → Look
shown_with animated own = fold (λ look property. show look (animated property)) own PROPERTIES

-- the look of an element at a tick: of each property the animated value, else the element's own
abbrev pub shown_look : TreeLists → (ℕ → Option Shown) → ℕ → Element → Look
shown_look tree shown tick element = shown_with (animated_value tree shown tick element.id) element.look

unfoldable pub row_of : TreeLists → (ℕ → Option Shown) → ℕ → Element → DrawnRow
row_of tree shown tick element = record { element = element.id; look = shown_look tree shown tick element }

-- the frame of a tick, by what is shown of each model
abbrev pub frame_by : Committed → (ℕ → Option Shown) → ℕ → DrawnFrame
frame_by active shown tick = record {
  time = tick;
  commit = active.number;
  rows = map (row_of active.tree shown tick) active.tree.elements;
}

-- The frame of a tick, over the marks up to the tick's own.
unfoldable pub frame_at : Committed → List Mark → ℕ → DrawnFrame
frame_at active marks tick = frame_by active (shown_by marks) tick

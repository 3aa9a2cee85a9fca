-- Trees and commits as lists, and what is read off them.
use Rattle.std.specs.Prelude.{ℕ, ◌+◌, ◌==◌, Bool, if◌then◌else◌, ℤ, ◌-ℤ◌, List, [], ◌∷◌, ◌++◌, filter, fold, find, Option, option_map, unwrap_or}
use Rattle.std.specs.List.{list_any}
use Rattle.anim_timeline.specs.Timelines.{timeline_time}
use Rattle.transform_ops.specs.declared.op.TransformOp.{TransformOp}
use Rattle.keyframe_model.specs.Models.{Spec, PropertyValue, OpacityValue, TransformValue}
use Rattle.anim_names.specs.declared.property.Property.{Property}
use Rattle.anim_names.specs.declared.property.Property.TheVariants.{Opacity, Transform}
use Rattle.tree_commit.specs.declared.shown.Shown.{Shown}

-- ---- trees and commits

-- what an element shows: a value of each property
pub record Look : Type 0 where
  pub opacity : ℕ
  pub transform : List TransformOp

-- the value of a property
abbrev pub own_value : Look → Property → PropertyValue
own_value look Opacity = OpacityValue look.opacity
own_value look Transform = TransformValue look.transform

-- the look with this value in the place of that of its property
abbrev pub set_own : Look → PropertyValue → Look
set_own look (OpacityValue opacity) = record look { opacity = opacity }
set_own look (TransformValue transform) = record look { transform = transform }

pub record Element : Type 0 where
  pub id : ℕ
  pub look : Look

-- a timeline, by the tick at which it shows 0
pub record Clock : Type 0 where
  pub id : ℕ
  pub origin : ℕ

-- A tree: its elements, its models and its timelines, each in order of insertion. The element of a model need not be
-- there.
pub record TreeLists : Type 0 where
  pub elements : List Element
  pub models : List Spec
  pub timelines : List Clock

-- the tree with one of its lists changed
abbrev pub with_elements : TreeLists → List Element → TreeLists
with_elements tree elements = record tree { elements = elements }

abbrev pub with_models : TreeLists → List Spec → TreeLists
with_models tree models = record tree { models = models }

abbrev pub with_timelines : TreeLists → List Clock → TreeLists
with_timelines tree timelines = record tree { timelines = timelines }

abbrev pub empty_tree : TreeLists
empty_tree = record { elements = []; models = []; timelines = [] }

-- a commit: main's tree as it was at a commit step, and which commit step that was, from 1 on
pub record Committed : Type 0 where
  pub number : ℕ
  pub tree : TreeLists

-- the commit that a commit step makes of a tree, where there were this many before it
abbrev pub next_commit : ℕ → TreeLists → Committed
next_commit count tree = record { number = count + 1; tree = tree }

-- commit 0, which is active before any other
abbrev pub empty_commit : Committed
empty_commit = record { number = 0; tree = empty_tree }

-- ---- what is in a tree

abbrev pub has_element : TreeLists → ℕ → Bool
has_element tree id = list_any (λ element. id == element.id) tree.elements

abbrev pub has_model : TreeLists → ℕ → Bool
has_model tree id = list_any (λ model. id == model.id) tree.models

abbrev pub model_with : TreeLists → ℕ → Option Spec
model_with tree id = find (λ model. id == model.id) tree.models

-- ---- timelines

-- the tick at which a timeline of the tree shows 0; the timelines of all its models are there
abbrev pub origin_of : TreeLists → ℕ → ℕ
origin_of tree id = unwrap_or (option_map (λ clock. clock.origin) (find (λ clock. id == clock.id) tree.timelines)) 0

-- what a model's timeline shows at a tick
abbrev pub time_of : TreeLists → ℕ → Spec → ℤ
time_of tree tick model = timeline_time (origin_of tree model.timeline) tick

-- a model's local time at a tick, by what is shown of it: how long ago, on its timeline, its recorded start was
abbrev pub local_time : TreeLists → ℕ → Spec → Shown → ℤ
local_time tree tick model shown = time_of tree tick model -ℤ shown.start

-- ---- groups

-- the models of a group, in the tree's order
abbrev pub members_of : TreeLists → ℕ → List Spec
members_of tree group = filter (λ model. group == model.group) tree.models

abbrev pub has_group : TreeLists → ℕ → Bool
has_group tree group = list_any (λ model. group == model.group) tree.models

-- the groups with that of one more model, last where it is not among them
abbrev pub with_group_of : List ℕ → Spec → List ℕ
with_group_of groups model =
    if list_any (λ group. model.group == group) groups then groups else groups ++ model.group ∷ []

-- the groups of a tree's models, in the order of their first models
abbrev pub groups_of : TreeLists → List ℕ
groups_of tree = fold with_group_of [] tree.models

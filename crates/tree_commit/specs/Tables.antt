-- What the tables of a commit stand for: maps from ids, in order of insertion.
use Rattle.std.specs.Prelude.{◌≡◌, ℕ, ◌==◌, Bool, IsTrue, List, map, All}
use Rattle.std.specs.List.{list_any}
use Rattle.std.specs.declared.alloc.Global.{Global}
use Rattle.std.specs.declared.sync.Arc.{Arc}
use Rattle.keyframe_model.specs.Models.{Spec}
use Rattle.tree_commit.specs.declared.base.Base.{Base}
use Rattle.tree_commit.specs.Trees.{Element, Clock, TreeLists}
use Rattle.tree_commit.specs.Views.{look_of}

-- ---- from tables to lists

-- an element of the tables, under its id
abbrev pub element_of : ℕ × Base → Element
element_of entry = record { id = entry.0; look = look_of entry.1 }

-- a model of the tables
abbrev pub spec_of : ℕ × Arc Spec Global → Spec
spec_of entry = entry.1.value

-- a timeline of the tables, under its id
abbrev pub clock_of : ℕ × ℕ → Clock
clock_of entry = record { id = entry.0; origin = entry.1 }

-- the tree of these tables, given by their entries in order
abbrev pub tree_of : List (ℕ × Base) → List (ℕ × Arc Spec Global) → List (ℕ × ℕ) → TreeLists
tree_of elements models timelines = record {
  elements = map element_of elements;
  models = map spec_of models;
  timelines = map clock_of timelines;
}

-- ---- what is true of them

-- each model stands under its own id
abbrev pub StandUnderOwnIds : List (ℕ × Arc Spec Global) → Type 0
StandUnderOwnIds models = map (λ entry. entry.0) models ≡ map (λ model. model.id) (map spec_of models)

abbrev pub has_timeline : TreeLists → ℕ → Bool
has_timeline tree id = list_any (λ clock. id == clock.id) tree.timelines

-- the timeline of each model is there
abbrev pub HasAllTimelines : TreeLists → Type 0
HasAllTimelines tree = All (λ model. IsTrue (has_timeline tree model.timeline)) tree.models

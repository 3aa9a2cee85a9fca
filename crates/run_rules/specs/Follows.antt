-- What a commit is that may become the pending one: it goes on from the active commit and from the marks so far.
use Rattle.std.specs.Prelude.{◌≡◌, ◌⊎◌, ℕ, ◌≤◌, Bool, IsTrue, List, length}
use Rattle.std.specs.List.{list_any}
use Rattle.anim_names.specs.Lists.{AreDistinct, IsAmong}
use Rattle.anim_names.specs.Properties.{is_property}
use Rattle.keyframe_model.specs.Models.{Spec, property_of}
use Rattle.run_rules.specs.declared.mark.Mark.{Mark}
use Rattle.tree_commit.specs.Trees.{TreeLists, has_group, has_model, origin_of}
use Rattle.tree_commit.specs.Tables.{has_timeline}
use Rattle.run_rules.specs.Marks.{is_about, starts_in}

-- Two models may be of one group: they agree in element, timeline and given start, and are of two properties.
pub record AgreeAsGroup (one other : Spec) : Type 0 where
  pub element : one.element ≡ other.element
  pub timeline : one.timeline ≡ other.timeline
  pub start : one.start ≡ other.start
  pub property : IsTrue (is_property (property_of one) (property_of other)) → one.id ≡ other.id

-- the model started, finished or was aborted
abbrev pub has_mark : List Mark → ℕ → Bool
has_mark marks id = list_any (is_about id) marks

-- ---- how many models there are

-- the compositor knows the model: it has a mark, or is in the active or in the pending tree
abbrev pub IsKnown : TreeLists → TreeLists → List Mark → ℕ → Type 0
IsKnown active pending marks id =
    IsTrue (has_mark marks id) ⊎ (IsTrue (has_model active id) ⊎ IsTrue (has_model pending id))

-- The models that it knows are together at most this many: a list of such models, each another, has no more entries.
abbrev pub KnowsAtMost : ℕ → TreeLists → TreeLists → List Mark → Type 0
KnowsAtMost most active pending marks =
    (ids : List ℕ) → AreDistinct ids → ((id : ℕ) → IsAmong id ids → IsKnown active pending marks id)
    → length ids ≤ most

-- ---- one tree after another

-- The trees agree: a model of both is one, and a timeline of both has one zero.
pub record TreesAgree (old new : TreeLists) : Type 0 where
  pub one_model :
      (model twin : Spec) → IsAmong model old.models → IsAmong twin new.models → model.id ≡ twin.id
      → model ≡ twin
  pub one_origin :
      (id : ℕ) → IsTrue (has_timeline old id) → IsTrue (has_timeline new id) → origin_of new id ≡ origin_of old id

-- ---- the pending tree after the active one

-- The pending tree goes on from the active one and from the marks so far.
-- A model of both is one. A model of the pending tree that has a mark is in the active one; so is one whose group has a
-- model there, or started. The models of a group agree. Each timeline of the active tree is there with its zero.
pub record Follows (active pending : TreeLists) (marks : List Mark) : Type 0 where
  pub one_model :
      (model twin : Spec) → IsAmong model active.models → IsAmong twin pending.models → model.id ≡ twin.id
      → model ≡ twin
  pub marked : (model : Spec) → IsAmong model pending.models → IsTrue (has_mark marks model.id) → IsAmong model active.models
  pub group_there :
      (model : Spec) → IsAmong model pending.models → IsTrue (has_group active model.group) → IsAmong model active.models
  pub group_started :
      (model : Spec) → IsAmong model pending.models → IsTrue (list_any (starts_in model.group) marks)
      → IsAmong model active.models
  pub groups_agree :
      (model mate : Spec) → IsAmong model pending.models → IsAmong mate pending.models → model.group ≡ mate.group
      → AgreeAsGroup model mate
  pub timelines :
      (id : ℕ) → IsTrue (has_timeline active id)
      → IsTrue (has_timeline pending id) × (origin_of pending id ≡ origin_of active id)

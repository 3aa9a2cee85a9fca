-- What the code keeps of the edits so far, as the book that edits are checked against.
use Rattle.std.specs.Prelude.{◌≡◌, ℕ, Option, List, map}
use Rattle.anim_names.specs.declared.property.Property.{Property}
use Rattle.tree_commit.specs.declared.edits.group_shape.GroupShape.{GroupShape}
use Rattle.keyframe_model.specs.Models.{Spec, property_of}
use Rattle.tree_commit.specs.Edits.{GroupParts}

-- a group under its id
abbrev pub group_of : ℕ × GroupShape → GroupParts
group_of entry = record {
  group = entry.0;
  element = entry.1.element;
  timeline = entry.1.timeline;
  start = entry.1.start;
  properties = entry.1.properties.items;
  commits_before = entry.1.commits_before;
}

abbrev pub groups_from : List (ℕ × GroupShape) → List GroupParts
groups_from entries = map group_of entries

-- a model has these parts
pub record HasParts (model : Spec) (id group element timeline : ℕ) (start : Option ℕ) (property : Property) : Type 0 where
  pub id_is : model.id ≡ id
  pub group_is : model.group ≡ group
  pub element_is : model.element ≡ element
  pub timeline_is : model.timeline ≡ timeline
  pub start_is : model.start ≡ start
  pub property_is : property_of model ≡ property

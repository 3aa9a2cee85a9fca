-- How the marks go with the models of the active commit.
use Rattle.std.specs.Prelude.{◌≡◌, ◌≢◌, ℕ, ℤ, true, false, List}
use Rattle.std.specs.List.{list_any}
use Rattle.keyframe_model.specs.Models.{Spec, property_of}
use Rattle.run_rules.specs.declared.mark.Begun.{Begun}
use Rattle.run_rules.specs.declared.mark.Mark.{Mark}
use Rattle.run_rules.specs.declared.mark.ModelMark.{ModelMark}
use Rattle.run_rules.specs.declared.mark.Mark.TheVariants.{OfModel}
use Rattle.run_rules.specs.declared.mark.ModelMark.TheVariants.{Started, Finished, Aborted}
use Rattle.anim_names.specs.Lists.{IsAmong}
use Rattle.run_rules.specs.Marks.{blocks, is_ended, is_start, is_started, starts_in}
use Rattle.tree_commit.specs.Trees.{TreeLists, has_element}
use Rattle.host_tables.specs.States.{is_among}

-- how a model starts at a tick, where its local time counts from this start
abbrev pub begun_of : Spec → ℕ → ℤ → Begun
begun_of model tick start = record {
  group = model.group;
  element = model.element;
  property = property_of model;
  at = tick;
  start = start;
}

-- What became of the model may become of it: a start names its group, its element and its property.
abbrev pub IsOf : ModelMark → Spec → Type 0
IsOf (Started begun) model =
    (begun.group ≡ model.group) × (begun.element ≡ model.element) × (begun.property ≡ property_of model)
IsOf (Finished at) model = Unit {0}
IsOf (Aborted commit) model = Unit {0}

-- A start of this model names its group, and a start in its group names its element.
abbrev pub AgreesAs : ℕ → ModelMark → Spec → Type 0
AgreesAs id (Started begun) model =
    (id ≡ model.id → begun.group ≡ model.group) × (begun.group ≡ model.group → begun.element ≡ model.element)
AgreesAs id (Finished at) model = Unit {0}
AgreesAs id (Aborted commit) model = Unit {0}

-- the mark goes with the model
abbrev pub AgreesWith : Mark → Spec → Type 0
AgreesWith (OfModel id what) model = AgreesAs id what model

-- A model that started is among these, if it has not ended.
abbrev pub IsThereIfUnfinished : List Spec → List Mark → Mark → Type 0
IsThereIfUnfinished models marks (OfModel id what) = is_start what ≡ true → is_ended marks id ≡ false → is_among models id ≡ true

-- The marks go with the models of the active commit: they name the same groups and elements, and all that is unfinished is there.
-- The models of a group are of one element.
pub record MarksFitModels (models : List Spec) (marks : List Mark) : Type 0 where
  pub agree : (mark : Mark) (model : Spec) → IsAmong mark marks → IsAmong model models → AgreesWith mark model
  pub unfinished : (mark : Mark) → IsAmong mark marks → IsThereIfUnfinished models marks mark
  pub mates : (model mate : Spec) → IsAmong model models → IsAmong mate models → model.group ≡ mate.group → model.element ≡ mate.element

-- Between two steps: a model that ended had started, and a group starts as a whole.
pub record AreSettled (models : List Spec) (marks : List Mark) : Type 0 where
  pub ended : (model : Spec) → IsAmong model models → is_ended marks model.id ≡ true → is_started marks model.id ≡ true
  pub together : (model : Spec) → IsAmong model models → list_any (starts_in model.group) marks ≡ true → is_started marks model.id ≡ true

-- The model may start with its group: it is of this group, has not ended, its element is there, and no other group blocks
-- its property.
pub record MayStartIn (group : ℕ) (tree : TreeLists) (marks : List Mark) (model : Spec) : Type 0 where
  pub own : model.group ≡ group
  pub alive : is_ended marks model.id ≡ false
  pub present : has_element tree model.element ≡ true
  pub free : (other : ℕ) → other ≢ group → blocks marks other model.element (property_of model) ≡ false

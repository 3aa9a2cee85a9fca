-- What the parts of a script may be: the numbers and lists that the types of the values take.
use Rattle.anim_timeline.specs.Timelines.{IsTime}
use Rattle.value_blend.specs.Blends.{IsOpacity}
use Rattle.transform_ops.specs.Lists.{IsList}
use Rattle.keyframe_model.specs.Models.{IsId, IsModel, IsPropertyValue}
use Rattle.tree_commit.specs.Trees.{Look}
use Rattle.tree_commit.specs.Edits.{Change, ElementChange, ModelChange, TimelineChange, OnElements, OnTimelines, OnModels, AddElement, RemoveElement, SetOwn, AddTimeline, AddModel, RemoveModel}

-- what an element may show
pub record IsLook (look : Look) : Type 0 where
  pub opacity : IsOpacity look.opacity
  pub transform : IsList look.transform

-- what may be a change of the elements
abbrev pub IsElementChange : ElementChange → Type 0
IsElementChange (AddElement id look) = IsId id × IsLook look
IsElementChange (RemoveElement id) = IsId id
IsElementChange (SetOwn id value) = IsId id × IsPropertyValue value

-- what may be a change of the timelines
abbrev pub IsTimelineChange : TimelineChange → Type 0
IsTimelineChange (AddTimeline id origin) = IsId id × IsTime origin

-- what may be a change of the models
abbrev pub IsModelChange : ModelChange → Type 0
IsModelChange (AddModel model) = IsModel model
IsModelChange (RemoveModel id) = IsId id

-- what may be an edit, wherever it stands
abbrev pub IsChange : Change → Type 0
IsChange (OnElements change) = IsElementChange change
IsChange (OnTimelines change) = IsTimelineChange change
IsChange (OnModels change) = IsModelChange change

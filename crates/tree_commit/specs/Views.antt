-- What the edits and the elements of the code stand for: whatever is shared there is seen as its value.
use Rattle.tree_commit.specs.declared.base.Base.{Base}
use Rattle.tree_commit.specs.declared.edits.edit.Edit.{Edit}
use Rattle.tree_commit.specs.declared.edits.edit.Edit.TheVariants as edit
use Rattle.keyframe_model.specs.Views.{shared_value_of}
use Rattle.tree_commit.specs.Trees.{Look}
use Rattle.tree_commit.specs.Edits.{Change, OnElements, OnTimelines, OnModels, AddElement, RemoveElement, SetOwn, AddTimeline, AddModel, RemoveModel}

abbrev pub look_of : Base → Look
look_of base = record { opacity = base.opacity; transform = base.transform.value }

abbrev pub change_of : Edit → Change
change_of (edit.AddElement id base) = OnElements (AddElement id (look_of base))
change_of (edit.RemoveElement id) = OnElements (RemoveElement id)
change_of (edit.SetOwn id value) = OnElements (SetOwn id (shared_value_of value))
change_of (edit.AddTimeline id timeline) = OnTimelines (AddTimeline id timeline)
change_of (edit.AddModel spec) = OnModels (AddModel spec.value)
change_of (edit.RemoveModel id) = OnModels (RemoveModel id)

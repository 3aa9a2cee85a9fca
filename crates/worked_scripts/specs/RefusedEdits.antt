-- Edits one after the other, most of them refused, each for the first reason.
use Rattle.std.specs.Prelude.{ℕ, List, [], ◌∷◌, ◌++◌, map, replicate, is_none, if◌then◌else◌, Option, Some, None}
use Rattle.std.specs.List.{range_with_len}
use Rattle.anim_names.specs.declared.limit.LimitName.TheVariants.{Timelines}
use Rattle.micro_time.specs.declared.fill.Fill.TheVariants.{Neither}
use Rattle.keyframe_model.specs.Models.{PropertyCurve, OpacityCurve, TransformCurve}
use Rattle.tree_commit.specs.declared.edits.refusal.EditRefusal.{EditRefusal}
use Rattle.tree_commit.specs.declared.edits.refusal.EditRefusal.TheVariants.{ElementThere, ElementNotThere, ModelIdUsed, ModelUnknown, TimelineThere, TimelineUnknown, GroupClosed, GroupMixed, Limit}
use Rattle.tree_commit.specs.Edits.{Book, edit_refusal, book_after, book_after_commit}
use Rattle.run_rules.specs.Scripts.{StepOfMain, EditStep, CommitStep, DrainStep}
use Rattle.worked_scripts.specs.Pieces.{timeline_1, element, model_of, added, runs, linear, moved, element_gone, model_gone, own_opacity, timeline}

-- why each edit is refused, if it is; one that is refused changes nothing
abbrev pub refusals : Book → List StepOfMain → List (Option EditRefusal)
refusals book [] = []
refusals book (EditStep change ∷ steps) =
    let reason = edit_refusal book change in
    reason ∷ refusals (if is_none reason then book_after book change else book) steps
refusals book (CommitStep ∷ steps) = refusals (book_after_commit book) steps
refusals book (DrainStep ∷ steps) = refusals book steps

abbrev pub fade : PropertyCurve
fade = OpacityCurve (linear 1000 0 1000000)

abbrev pub move : PropertyCurve
move = TransformCurve (linear 1000 (moved 0) (moved 1000))

-- a model of an element, in a group, on a timeline
abbrev pub model_on : ℕ → ℕ → ℕ → ℕ → PropertyCurve → StepOfMain
model_on id group element timeline curve =
    added (record (model_of element id group (runs 1000 1000 Neither) curve) { timeline = timeline })

-- the same on timeline 1, with a given start
abbrev pub model_from : ℕ → ℕ → ℕ → ℕ → PropertyCurve → StepOfMain
model_from id group element start curve =
    added (record (model_of element id group (runs 1000 1000 Neither) curve) { start = Some start })

abbrev pub steps : List StepOfMain
steps =
    element 1 1000000
    ∷ element 1 1000000
    ∷ own_opacity 2 500000
    ∷ element_gone 2
    ∷ timeline_1
    ∷ timeline_1
    ∷ model_on 1 1 1 2 fade
    ∷ model_on 1 1 1 1 fade
    ∷ model_on 1 2 1 1 fade
    ∷ model_on 2 1 1 1 fade
    ∷ model_on 2 1 2 1 move
    ∷ model_from 2 1 1 500 move
    ∷ model_gone 2
    ∷ model_gone 1
    ∷ model_on 1 1 1 1 move
    ∷ model_on 2 1 1 1 fade
    ∷ CommitStep
    ∷ model_on 2 1 1 1 move
    ∷ map (λ id. timeline id 0) (range_with_len 2 64)

abbrev pub reasons : List (Option EditRefusal)
reasons =
    None
    ∷ Some ElementThere
    ∷ Some ElementNotThere
    ∷ Some ElementNotThere
    ∷ None
    ∷ Some TimelineThere
    ∷ Some TimelineUnknown
    ∷ None
    ∷ Some ModelIdUsed
    ∷ Some GroupMixed
    ∷ Some GroupMixed
    ∷ Some GroupMixed
    ∷ Some ModelUnknown
    ∷ None
    ∷ Some ModelIdUsed
    ∷ Some GroupMixed
    ∷ Some GroupClosed
    ∷ (replicate 63 None ++ Some (Limit Timelines) ∷ [])

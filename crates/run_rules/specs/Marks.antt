-- Marks: what is read off them, and the new ones that a tick and an activation make.
use Rattle.std.specs.Prelude.{ℕ, ◌+◌, ◌==◌, Bool, true, false, not, ◌&&◌, ◌||◌, if◌then◌else◌, ℤ, pos, List, [], ◌∷◌, ◌++◌, map, filter, filter_map, Option, Some, None}
use Rattle.std.specs.List.{list_any, list_all}
use Rattle.anim_names.specs.declared.event.AnimEvent.{AnimEvent}
use Rattle.anim_names.specs.declared.event.AnimEvent.TheVariants as event
use Rattle.anim_names.specs.declared.property.Property.{Property}
use Rattle.anim_names.specs.Properties.{is_property}
use Rattle.micro_time.specs.Timings.{is_done}
use Rattle.keyframe_model.specs.Models.{Spec, property_of}
use Rattle.run_rules.specs.declared.mark.Begun.{Begun}
use Rattle.run_rules.specs.declared.mark.Mark.{Mark}
use Rattle.run_rules.specs.declared.mark.ModelMark.{ModelMark}
use Rattle.run_rules.specs.declared.mark.Mark.TheVariants.{OfModel}
use Rattle.run_rules.specs.declared.mark.ModelMark.TheVariants.{Started, Finished, Aborted}
use Rattle.tree_commit.specs.declared.shown.Shown.{Shown}
use Rattle.tree_commit.specs.Trees.{TreeLists, Committed, has_element, has_model, has_group, members_of, groups_of, time_of, local_time}

-- ---- what one mark says

-- a test of a model and of what became of it: a mark of a model passes where they do
abbrev pub of_model : (ℕ → ModelMark → Bool) → Mark → Bool
of_model test (OfModel model what) = test model what

-- the mark says this of this model
abbrev pub says : (ModelMark → Bool) → ℕ → Mark → Bool
says test id mark = of_model (λ model what. test what && id == model) mark

-- a test of how a model started: passed where it started so
abbrev pub began : (Begun → Bool) → ModelMark → Bool
began test (Started begun) = test begun
began test (Finished at) = false
began test (Aborted commit) = false

-- the model started
abbrev pub is_start : ModelMark → Bool
is_start what = began (λ begun. true) what

-- the model ended: it finished or was aborted
abbrev pub is_end : ModelMark → Bool
is_end (Started begun) = false
is_end (Finished at) = true
is_end (Aborted commit) = true

-- the model was aborted
abbrev pub is_abort : ModelMark → Bool
is_abort (Started begun) = false
is_abort (Finished at) = false
is_abort (Aborted commit) = true

-- the model that it is about
abbrev pub model_of : Mark → ℕ
model_of (OfModel model what) = model

-- the mark is about this model
abbrev pub is_about : ℕ → Mark → Bool
is_about id mark = of_model (λ model what. id == model) mark

-- the event that main hears of what became of a model
abbrev pub event_of_model : ℕ → ModelMark → AnimEvent
event_of_model model (Started begun) = event.Started model begun.group begun.at begun.start
event_of_model model (Finished at) = event.Finished model at
event_of_model model (Aborted commit) = event.Aborted model commit

-- the event that main hears of the mark
abbrev pub event_of : Mark → AnimEvent
event_of (OfModel model what) = event_of_model model what

-- this model started
abbrev pub starts : ℕ → Mark → Bool
starts id mark = says is_start id mark

-- this model ended
abbrev pub ends : ℕ → Mark → Bool
ends id mark = says is_end id mark

-- this model was aborted
abbrev pub aborts : ℕ → Mark → Bool
aborts id mark = says is_abort id mark

-- a model started, and how it started passes the test
abbrev pub starts_so : (Begun → Bool) → Mark → Bool
starts_so test mark = of_model (λ model what. began test what) mark

-- a model of this group started
abbrev pub starts_in : ℕ → Mark → Bool
starts_in group mark = starts_so (λ begun. group == begun.group) mark

-- a model of this property of this element started
abbrev pub starts_on : ℕ → Property → Mark → Bool
starts_on element property mark =
    starts_so (λ begun. element == begun.element && is_property property begun.property) mark

-- the group with which a model started
abbrev pub group_begun : ModelMark → Option ℕ
group_begun (Started begun) = Some begun.group
group_begun (Finished at) = None
group_begun (Aborted commit) = None

-- the group of which a model started
abbrev pub started_group : Mark → Option ℕ
started_group (OfModel model what) = group_begun what

-- ---- what a list of marks says of a model

abbrev pub is_started : List Mark → ℕ → Bool
is_started marks id = list_any (starts id) marks

abbrev pub is_ended : List Mark → ℕ → Bool
is_ended marks id = list_any (ends id) marks

abbrev pub is_aborted : List Mark → ℕ → Bool
is_aborted marks id = list_any (aborts id) marks

-- started and not ended
abbrev pub is_unfinished : List Mark → ℕ → Bool
is_unfinished marks id = is_started marks id && not (is_ended marks id)

-- what is shown of a model where this became of it in the mark of this index, and behind it the rest says this
abbrev pub start_or : ModelMark → Bool → ℕ → Option Shown → Option Shown
start_or (Started begun) is_it index rest = if is_it then Some (record { start = begun.start; order = index }) else rest
start_or (Finished at) is_it index rest = rest
start_or (Aborted commit) is_it index rest = rest

-- the mark is the start of a model of this group that has not ended
abbrev pub starts_unfinished : List Mark → ℕ → Mark → Bool
starts_unfinished marks group mark =
    of_model (λ model what. began (λ begun. group == begun.group) what && not (is_ended marks model)) mark

-- the start that was recorded for a model, and the index of that mark, where the first mark has this index
abbrev pub start_from : ℕ → List Mark → ℕ → Option Shown
start_from index [] id = None
start_from index (OfModel model what ∷ marks) id = start_or what (id == model) index (start_from (index + 1) marks id)

-- the start that was recorded for a model, and the index of that mark
abbrev pub start_of : List Mark → ℕ → Option Shown
start_of marks id = start_from 0 marks id

-- ---- what it says of a group

-- the group has a model that is unfinished
abbrev pub is_group_unfinished : List Mark → ℕ → Bool
is_group_unfinished marks group = list_any (starts_unfinished marks group) marks

-- The group blocks a property of an element: it has an unfinished model, and one of its models that started, ended or not, is of
-- that property of that element.
abbrev pub blocks : List Mark → ℕ → ℕ → Property → Bool
blocks marks group element property =
    is_group_unfinished marks group && list_any (λ mark. starts_in group mark && starts_on element property mark) marks

-- some other group blocks the property of the element
abbrev pub is_blocked_for : List Mark → ℕ → ℕ → Property → Bool
is_blocked_for marks group element property =
    list_any (λ other. not (group == other) && blocks marks other element property) (filter_map started_group marks)

-- ---- ready

-- Where a pending commit holds a model of the group, the element is in it.
abbrev pub pending_allows : Option Committed → ℕ → ℕ → Bool
pending_allows None group element = true
pending_allows (Some pending) group element = not (has_group pending.tree group) || has_element pending.tree element

-- Nothing keeps the model from starting: its element is in the active tree and, where it is asked for, in the pending
-- one, and no other group blocks its property.
abbrev pub may_start : TreeLists → Option Committed → List Mark → Spec → Bool
may_start active pending marks model =
    has_element active model.element
    && pending_allows pending model.group model.element
    && not (is_blocked_for marks model.group model.element (property_of model))

-- The group is ready: the active tree has models of it, none of its models is started, and each of those in the active
-- tree may start.
unfoldable pub is_ready : TreeLists → Option Committed → List Mark → ℕ → Bool
is_ready active pending marks group =
    has_group active group
    && not (list_any (starts_in group) marks)
    && list_all (may_start active pending marks) (members_of active group)

-- ---- the new marks of a tick: first what finishes

-- the model is done at the tick, by the start that was recorded for it
abbrev pub is_over : TreeLists → ℕ → Spec → Option Shown → Bool
is_over active tick model None = false
is_over active tick model (Some shown) = is_done model.timing (local_time active tick model shown)

-- the unfinished models of a group; all are in the active tree, by a law of these definitions
abbrev pub unfinished_members : TreeLists → List Mark → ℕ → List Spec
unfinished_members active marks group = filter (λ model. is_unfinished marks model.id) (members_of active group)

-- each unfinished model of the group is done
abbrev pub are_over : TreeLists → List Mark → ℕ → ℕ → Bool
are_over active marks tick group =
    list_all (λ model. is_over active tick model (start_of marks model.id)) (unfinished_members active marks group)

-- the unfinished models whose groups finish, in the order of the active tree whatever their groups
abbrev pub finishing_models : TreeLists → List Mark → ℕ → List Spec
finishing_models active marks tick =
    filter (λ model. is_unfinished marks model.id && are_over active marks tick model.group) active.models

-- A group finishes as a whole, once each of its unfinished models is done.
unfoldable pub finish_marks : TreeLists → List Mark → ℕ → List Mark
finish_marks active marks tick = map (λ model. OfModel model.id (Finished tick)) (finishing_models active marks tick)

-- ---- then what starts

-- the start to record for a model: the given one, else what its timeline shows
abbrev pub recorded_start : Option ℕ → ℤ → ℤ
recorded_start None time = time
recorded_start (Some start) time = pos start

abbrev pub start_mark : TreeLists → ℕ → Spec → Mark
start_mark active tick model =
    OfModel model.id (Started (record {
      group = model.group;
      element = model.element;
      property = property_of model;
      at = tick;
      start = recorded_start model.start (time_of active tick model);
    }))

-- A group that is ready starts as a whole: each of its models in the active tree.
abbrev pub group_marks : TreeLists → Option Committed → List Mark → ℕ → ℕ → List Mark
group_marks active pending marks tick group =
    if is_ready active pending marks group then map (start_mark active tick) (members_of active group) else []

-- The groups in turn, each over the marks so far: one that starts blocks the ones behind it.
unfoldable pub start_marks : TreeLists → Option Committed → List Mark → ℕ → List ℕ → List Mark
start_marks active pending marks tick [] = []
start_marks active pending marks tick (group ∷ behind) =
    let new = group_marks active pending marks tick group in
    new ++ start_marks active pending (marks ++ new) tick behind

-- The new marks of a tick, over the marks before it.
unfoldable pub marks_of_tick : TreeLists → Option Committed → List Mark → ℕ → List Mark
marks_of_tick active pending marks tick =
    let finished = finish_marks active marks tick in
    finished ++ start_marks active pending (marks ++ finished) tick (groups_of active)

-- ---- the new marks of an activation

-- The model is not ended, and the new tree has it no more or, if it is started, has its element no more.
abbrev pub is_lost : TreeLists → List Mark → Spec → Bool
is_lost new marks model =
    not (is_ended marks model.id)
    && (not (has_model new model.id) || (is_started marks model.id && not (has_element new model.element)))

-- the models that are lost, in the order of the active tree
abbrev pub lost_models : TreeLists → TreeLists → List Mark → List Spec
lost_models active new marks = filter (is_lost new marks) active.models

-- The new marks as a commit takes the place of the active tree.
unfoldable pub marks_of_activation : TreeLists → Committed → List Mark → List Mark
marks_of_activation active new marks = map (λ model. OfModel model.id (Aborted new.number)) (lost_models active new.tree marks)

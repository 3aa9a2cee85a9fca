-- A run: the state of each lane, what each step makes of it, and the report of a script for any word of its lanes.
use Rattle.std.specs.Prelude.{ℕ, nat_lt, Bool, false, ◌&&◌, is_none, if◌then◌else◌, List, [], ◌∷◌, ◌++◌, length, drop, map, fold, Option, Some, None}
use Rattle.anim_names.specs.declared.event.AnimEvent.{AnimEvent}
use Rattle.anim_names.specs.declared.event.AnimEvent.TheVariants.{Started, Finished, Aborted}
use Rattle.anim_names.specs.declared.lane.Lane.{Lane}
use Rattle.anim_names.specs.declared.lane.Lane.TheVariants.{Main, Compositor}
use Rattle.anim_delegate.specs.Table.{verdict_on, is_retire}
use Rattle.keyframe_model.specs.Models.{Spec}
use Rattle.run_rules.specs.declared.mark.Mark.{Mark}
use Rattle.run_rules.specs.declared.compositor_step.CompositorStep.{CompositorStep}
use Rattle.run_rules.specs.declared.compositor_step.CompositorStep.TheVariants.{Pull, Activate, Tick}
use Rattle.tree_commit.specs.Trees.{TreeLists, Committed, empty_tree, empty_commit, next_commit, model_with}
use Rattle.tree_commit.specs.Edits.{tree_after, without_model}
use Rattle.run_rules.specs.Scripts.{StepOfMain, EditStep, CommitStep, DrainStep, ScriptLists}
use Rattle.run_rules.specs.Marks.{event_of, marks_of_tick, marks_of_activation}
use Rattle.run_rules.specs.Frames.{DrawnFrame, frame_at}

-- ---- hearing

-- the model that an event is about
abbrev pub model_of_event : AnimEvent → ℕ
model_of_event (Started model group at start) = model
model_of_event (Finished model at) = model
model_of_event (Aborted model commit) = model

-- main's tree without the model, where that is still there and its policy retires it after the event
abbrev pub tree_after_verdict : TreeLists → AnimEvent → Option Spec → TreeLists
tree_after_verdict tree event None = tree
tree_after_verdict tree event (Some model) =
    if is_retire (verdict_on model.policy event) then without_model tree model.id else tree

-- main's tree after main has heard an event
unfoldable pub tree_after_hearing : TreeLists → AnimEvent → TreeLists
tree_after_hearing tree event = tree_after_verdict tree event (model_with tree (model_of_event event))

-- hearing the event retires a model: its model is still there, and its policy asks for it
abbrev pub retires_found : AnimEvent → Option Spec → Bool
retires_found event None = false
retires_found event (Some model) = is_retire (verdict_on model.policy event)

abbrev pub retires : TreeLists → AnimEvent → Bool
retires tree event = retires_found event (model_with tree (model_of_event event))

-- ---- main's lane

-- the state of main's lane: the steps that are left, the tree, the commits in order, the events heard in order, and
-- how many they were after each drain
pub record MainLane : Type 0 where
  pub left : List StepOfMain
  pub tree : TreeLists
  pub commits : List Committed
  pub heard : List AnimEvent
  pub counts : List ℕ

-- the events of the marks that main has not heard
abbrev pub unheard_events : List Mark → MainLane → List AnimEvent
unheard_events marks lane = drop (length lane.heard) (map event_of marks)

-- A commit takes the tree as it is, under the next number.
abbrev pub after_commit : MainLane → MainLane
after_commit lane =
    record lane { commits = lane.commits ++ next_commit (length lane.commits) lane.tree ∷ [] }

-- At a drain main hears all events that it has not heard, in order.
unfoldable pub after_drain : List Mark → MainLane → MainLane
after_drain marks lane =
    let new = unheard_events marks lane in
    record lane {
      tree = fold tree_after_hearing lane.tree new;
      heard = lane.heard ++ new;
      counts = lane.counts ++ length (lane.heard ++ new) ∷ [];
    }

-- a step of main, over the marks so far
abbrev pub main_makes : List Mark → StepOfMain → MainLane → MainLane
main_makes marks (EditStep change) lane = record lane { tree = tree_after lane.tree change }
main_makes marks CommitStep lane = after_commit lane
main_makes marks DrainStep lane = after_drain marks lane

abbrev pub main_takes : List Mark → List StepOfMain → MainLane → MainLane
main_takes marks [] lane = lane
main_takes marks (step ∷ left) lane = main_makes marks step (record lane { left = left })

-- Main makes its next step, where one is left.
unfoldable pub main_step : List Mark → MainLane → MainLane
main_step marks lane = main_takes marks lane.left lane

-- ---- the compositor's lane

-- the state of the compositor's lane: the steps that are left, the number of the commit pulled last, the pending
-- commit if there is one, the active commit, the marks in order, and the frames in order
pub record CompositorLane : Type 0 where
  pub left : List CompositorStep
  pub pulled : ℕ
  pub pending : Option Committed
  pub active : Committed
  pub marks : List Mark
  pub frames : List DrawnFrame

-- the newest commit, commit 0 before any
abbrev pub newest_commit : List Committed → Committed
newest_commit commits = fold (λ older commit. commit) empty_commit commits

-- the lane with this commit pulled, and pending
abbrev pub with_pending : Committed → CompositorLane → CompositorLane
with_pending newest lane = record lane { pulled = newest.number; pending = Some newest }

-- A pull takes the newest commit as the pending one, where none is pending and this one was not pulled yet.
abbrev pub after_pull : Committed → CompositorLane → CompositorLane
after_pull newest lane =
    if is_none lane.pending && nat_lt lane.pulled newest.number then with_pending newest lane else lane

-- An activation makes the pending commit the active one, where one is pending, and marks what is lost.
abbrev pub after_activation : Option Committed → CompositorLane → CompositorLane
after_activation None lane = lane
after_activation (Some pending) lane =
    record lane {
      pending = None;
      active = pending;
      marks = lane.marks ++ marks_of_activation lane.active.tree pending lane.marks;
    }

-- A tick marks what finishes and what starts, and then draws a frame.
abbrev pub after_tick : ℕ → CompositorLane → CompositorLane
after_tick time lane =
    let marks = lane.marks ++ marks_of_tick lane.active.tree lane.pending lane.marks time in
    record lane { marks = marks; frames = lane.frames ++ frame_at lane.active marks time ∷ [] }

-- a step of the compositor, over the commits so far
abbrev pub compositor_makes : List Committed → CompositorStep → CompositorLane → CompositorLane
compositor_makes commits Pull lane = after_pull (newest_commit commits) lane
compositor_makes commits Activate lane = after_activation lane.pending lane
compositor_makes commits (Tick time) lane = after_tick time lane

abbrev pub compositor_takes : List Committed → List CompositorStep → CompositorLane → CompositorLane
compositor_takes commits [] lane = lane
compositor_takes commits (step ∷ left) lane = compositor_makes commits step (record lane { left = left })

-- The compositor makes its next step, where one is left.
unfoldable pub compositor_step : List Committed → CompositorLane → CompositorLane
compositor_step commits lane = compositor_takes commits lane.left lane

-- ---- both lanes

pub record Lanes : Type 0 where
  pub main : MainLane
  pub compositor : CompositorLane

-- the state before the first step
abbrev pub beginning : ScriptLists → Lanes
beginning script = record {
  main = record { left = script.main; tree = empty_tree; commits = []; heard = []; counts = [] };
  compositor = record {
    left = script.compositor;
    pulled = 0;
    pending = None;
    active = empty_commit;
    marks = [];
    frames = [];
  };
}

-- A letter is the next step of its lane. Of the other lane main reads the marks alone, and the compositor the commits.
abbrev pub after_letter : Lanes → Lane → Lanes
after_letter lanes Main = record lanes { main = main_step lanes.compositor.marks lanes.main }
after_letter lanes Compositor = record lanes { compositor = compositor_step lanes.main.commits lanes.compositor }

-- the state after a word, letter by letter
unfoldable pub after : Lanes → List Lane → Lanes
after lanes word = fold after_letter lanes word

-- ---- reports

-- a report: the word, the frames, all events, and how many of these main had heard at each drain and at the closing one
pub record ReportLists : Type 0 where
  pub word : List Lane
  pub frames : List DrawnFrame
  pub events : List AnimEvent
  pub heard : List ℕ

-- the report of the state after a whole word, when the closing drain has heard the rest
unfoldable pub closing_report : List Lane → Lanes → ReportLists
closing_report word lanes = record {
  word = word;
  frames = lanes.compositor.frames;
  events = map event_of lanes.compositor.marks;
  heard = (after_drain lanes.compositor.marks lanes.main).counts;
}

-- The report of a script for a word of its lanes.
abbrev pub report_of : ScriptLists → List Lane → ReportLists
report_of script word = closing_report word (after (beginning script) word)

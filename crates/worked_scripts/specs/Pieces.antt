-- Short forms for what the worked scripts and their reports are made of.
use Rattle.std.specs.Prelude.{ℕ, ◌==◌, if◌then◌else◌, pos, List, [], ◌∷◌, map, None}
use Rattle.anim_names.specs.declared.lane.Lane.{Lane}
use Rattle.anim_names.specs.declared.lane.Lane.TheVariants.{Main, Compositor}
use Rattle.anim_delegate.specs.declared.policy.Policy.TheVariants.{Auto}
use Rattle.micro_time.specs.declared.direction.Direction.TheVariants.{Normal}
use Rattle.micro_time.specs.declared.fill.Fill.{Fill}
use Rattle.micro_time.specs.declared.iterations.Iterations.TheVariants.{Finite}
use Rattle.micro_time.specs.Timings.{TimingParts, timing_parts}
use Rattle.easing_fixed.specs.declared.easing.Easing.TheVariants.{Linear}
use Rattle.transform_ops.specs.declared.op.TransformOp.{TransformOp}
use Rattle.transform_ops.specs.declared.op.TransformOp.TheVariants.{Translate}
use Rattle.curve_keys.specs.declared.key.Key.{Key}
use Rattle.curve_keys.specs.Curves.{Keyframes}
use Rattle.keyframe_model.specs.Models.{Spec, PropertyCurve, OpacityValue}
use Rattle.tree_commit.specs.Edits.{AddElement, AddModel, AddTimeline, OnElements, OnModels, OnTimelines, RemoveElement, RemoveModel, SetOwn}
use Rattle.run_rules.specs.Scripts.{StepOfMain, EditStep}
use Rattle.run_rules.specs.Frames.{DrawnFrame, DrawnRow}

-- ---- words

-- an M is a step of main, and any other letter one of the compositor
abbrev pub lane_of : ℕ → Lane
lane_of letter = if letter == 77 then Main else Compositor

abbrev pub letters : List ℕ → List Lane
letters codes = map lane_of codes

-- ---- steps of main

-- a timeline that shows 0 at this tick
abbrev pub timeline : ℕ → ℕ → StepOfMain
timeline id origin = EditStep (OnTimelines (AddTimeline id origin))

-- timeline 1, which shows 0 at tick 0
abbrev pub timeline_1 : StepOfMain
timeline_1 = timeline 1 0

-- an element of this opacity and this transform
abbrev pub element_at : ℕ → ℕ → List TransformOp → StepOfMain
element_at id opacity transform = EditStep (OnElements (AddElement id (record { opacity = opacity; transform = transform })))

-- an element of this opacity, in its place
abbrev pub element : ℕ → ℕ → StepOfMain
element id opacity = element_at id opacity []

-- the element is made this opaque by itself
abbrev pub own_opacity : ℕ → ℕ → StepOfMain
own_opacity id opacity = EditStep (OnElements (SetOwn id (OpacityValue opacity)))

-- the element is removed
abbrev pub element_gone : ℕ → StepOfMain
element_gone id = EditStep (OnElements (RemoveElement id))

-- the model is removed
abbrev pub model_gone : ℕ → StepOfMain
model_gone id = EditStep (OnModels (RemoveModel id))

-- a model of an element on timeline 1, without a given start, which main drops once it has ended
abbrev pub model_of : ℕ → ℕ → ℕ → TimingParts → PropertyCurve → Spec
model_of element id group timing curve = record {
  id = id;
  group = group;
  element = element;
  timeline = 1;
  start = None;
  timing = timing;
  policy = Auto;
  curve = curve;
}

abbrev pub added : Spec → StepOfMain
added model = EditStep (OnModels (AddModel model))

-- such a model of element 1
abbrev pub model : ℕ → ℕ → TimingParts → PropertyCurve → StepOfMain
model id group timing curve = added (model_of 1 id group timing curve)

-- this many thousandths of an iteration, forwards, from the start on
abbrev pub runs : ℕ → ℕ → Fill → TimingParts
runs duration iterations fill =
    timing_parts duration (pos 0) (Finite iterations) 0 Normal fill (pos 1000)

abbrev pub key : {V : Type 0} → ℕ → V → Key V
key time value = record { time = time; easing = Linear; value = value }

-- evenly from one value to another
abbrev pub linear : {V : Type 0} → ℕ → V → V → Keyframes V
linear duration from to = record { keys = key 0 from ∷ key duration to ∷ []; easing = Linear }

-- a move along x, in thousandths of a pixel
abbrev pub moved : ℕ → List TransformOp
moved x = Translate (pos x) (pos 0) (pos 0) ∷ []

-- ---- frames

abbrev pub frame : ℕ → ℕ → List DrawnRow → DrawnFrame
frame time commit rows = record { time = time; commit = commit; rows = rows }

abbrev pub row : ℕ → ℕ → List TransformOp → DrawnRow
row element opacity transform = record { element = element; look = record { opacity = opacity; transform = transform } }

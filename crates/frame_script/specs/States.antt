-- What stands between two lines of a script, and what a line makes of it.
use Rattle.std.specs.Prelude.{ℕ, ◌+◌, ◌*◌, ◌==◌, ◌&&◌, nat_lt, is_none, Bool, List, [], ◌∷◌, ◌++◌, length, Option, Some, None, Result, Ok, Err, if◌then◌else◌, codes, option_map, ok_or}
use Rattle.std.specs.Str.{bytes_eq}
use Rattle.anim_names.specs.Lanes.{letters_of}
use Rattle.anim_names.specs.declared.lane.Lane.{Lane}
use Rattle.anim_names.specs.declared.lane.Lane.TheVariants.{Main, Compositor}
use Rattle.anim_names.specs.declared.limit.LimitName.TheVariants.{Steps, Commits, Frames}
use Rattle.anim_names.specs.declared.limit.TheConstants.{MOST_STEPS, MOST_COMMITS, MOST_FRAMES}
use Rattle.anim_names.specs.declared.version.Version.{Version}
use Rattle.anim_names.specs.declared.version.Version.TheVariants.{One}
use Rattle.anim_names.specs.declared.property.Property.{Property}
use Rattle.anim_names.specs.declared.property.Property.TheVariants.{Opacity, Transform}
use Rattle.micro_time.specs.Timings.{TimingParts}
use Rattle.easing_fixed.specs.declared.easing.Easing.{Easing}
use Rattle.transform_ops.specs.declared.op.TransformOp.{TransformOp}
use Rattle.curve_keys.specs.declared.key.Key.{Key}
use Rattle.curve_keys.specs.Curves.{Keyframes, keyframes, last_time, curve_refusal}
use Rattle.keyframe_model.specs.Models.{PropertyCurve, OpacityCurve, TransformCurve, Spec, model_parts, curve_duration}
use Rattle.tree_commit.specs.declared.edits.refusal.EditRefusal.TheVariants.{Limit}
use Rattle.run_rules.specs.declared.compositor_step.CompositorStep.{CompositorStep}
use Rattle.run_rules.specs.declared.compositor_step.CompositorStep.TheVariants.{Pull, Activate, Tick}
use Rattle.tree_commit.specs.Edits.{Book, OnModels, AddModel, edit_refusal, model_refusal}
use Rattle.run_rules.specs.Scripts.{StepOfMain, EditStep, CommitStep, DrainStep, ScriptLists, book_of, ticks_of}
use Rattle.script_fields.specs.Fields.{◌>>=◌, fields}
use Rattle.script_fields.specs.Lists.{is_list_long}
use Rattle.frame_script.specs.declared.cause.Cause.{Cause}
use Rattle.frame_script.specs.declared.cause.Cause.TheVariants.{Edit, BadHeader, BadLine, BadCurve, TimeBack, BadWord}
use Rattle.frame_script.specs.declared.model_line.ModelNames.{ModelNames}
use Rattle.frame_script.specs.declared.model_line.ModelLine.{ModelLine}
use Rattle.frame_script.specs.Causes.{demand, allow}
use Rattle.frame_script.specs.Headers.{header_said}
use Rattle.frame_script.specs.Lines.{is_skipped}
use Rattle.frame_script.specs.Said.{MainLine, SaysStep, SaysModel, main_said, key_said, is_one, own_opacity, own_list, compositor_said, word_said}

-- ---- what stands between two lines

-- the keys of a model so far
pub data PropertyKeys : Type 0 where
  OpacityKeys : List (Key ℕ) → PropertyKeys
  TransformKeys : List (Key (List TransformOp)) → PropertyKeys

-- Which line may stand next: the header; `main`; a line of main; a key of the model of this line, of which there are
-- these keys; a line of the compositor; `end`; or none.
pub data Stage : Type 0 where
  AtHeader : Stage
  AtMain : Stage
  InMain : Stage
  InModel : ModelLine → PropertyKeys → Stage
  InCompositor : Stage
  AtEnd : Stage
  Ended : Stage

-- the stage, and the script so far
pub record ScriptState : Type 0 where
  pub stage : Stage
  pub script : ScriptLists

abbrev pub at : Stage → ScriptLists → ScriptState
at stage script = record { stage = stage; script = script }

-- no step; what the version is shows only after the header
abbrev pub empty_script : ScriptLists
empty_script = record { version = One; main = []; compositor = []; word = [] }

-- before the first line, and after the last one of a script
abbrev pub beginning : ScriptState
beginning = at AtHeader empty_script

-- ---- main's steps

abbrev pub has_room : {A : Type 0} → List A → Bool
has_room steps = nat_lt (length steps) MOST_STEPS

-- why a step may not be made after those that led to this book
abbrev pub step_refusal : Book → StepOfMain → Option Cause
step_refusal book (EditStep change) = option_map Edit (edit_refusal book change)
step_refusal book CommitStep = if nat_lt book.commits MOST_COMMITS then None else Some (Edit (Limit Commits))
step_refusal book DrainStep = None

-- main's steps with one more, where it may be made
unfoldable pub main_with : List StepOfMain → StepOfMain → Result (List StepOfMain) Cause
main_with steps step = do
  room ← demand (has_room steps) (Edit (Limit Steps))
  allowed ← allow (step_refusal (book_of steps) step)
  Ok (steps ++ step ∷ [])

abbrev pub with_main : ScriptLists → List StepOfMain → ScriptLists
with_main script steps = record script { main = steps }

unfoldable pub step_made : ScriptLists → StepOfMain → Result ScriptState Cause
step_made script step = do
  steps ← main_with script.main step
  Ok (at InMain (with_main script steps))

-- ---- models

abbrev pub no_keys : Property → PropertyKeys
no_keys Opacity = OpacityKeys []
no_keys Transform = TransformKeys []

abbrev pub names_refusal : Book → ModelNames → Option Cause
names_refusal book names =
    option_map Edit (model_refusal book names.id names.group names.element names.timeline names.start names.property)

-- a model of these names may be added after main's steps
unfoldable pub model_allowed : List StepOfMain → ModelNames → Result (Unit {0}) Cause
model_allowed steps names = do
  room ← demand (has_room steps) (Edit (Limit Steps))
  allow (names_refusal (book_of steps) names)

-- the line of a model is judged as the adding of that model, before its keys
unfoldable pub model_begun : ScriptLists → ModelLine → Result ScriptState Cause
model_begun script line = do
  allowed ← model_allowed script.main line.names
  Ok (at (InModel line (no_keys line.names.property)) script)

-- the first key is at time 0, and each further one later than the one before
abbrev pub is_next_time : {V : Type 0} → List (Key V) → ℕ → Bool
is_next_time [] time = time == 0
is_next_time (key ∷ keys) time = nat_lt (last_time 0 (key ∷ keys)) time

abbrev pub with_key : {V : Type 0} → List (Key V) → Key V → Result (List (Key V)) Cause
with_key keys key = demand (is_next_time keys key.time) BadCurve >>= λ next. Ok (keys ++ key ∷ [])

-- the keys with that of a further line
unfoldable pub keys_with : PropertyKeys → List (List ℕ) → Result PropertyKeys Cause
keys_with (OpacityKeys keys) line =
    key_said is_one own_opacity line >>= λ key. with_key keys key >>= λ more. Ok (OpacityKeys more)
keys_with (TransformKeys keys) line =
    key_said is_list_long own_list line >>= λ key. with_key keys key >>= λ more. Ok (TransformKeys more)

abbrev pub key_count : PropertyKeys → ℕ
key_count (OpacityKeys keys) = length keys
key_count (TransformKeys keys) = length keys

-- the curve through the keys, where they make one
unfoldable pub taken_curve : {V : Type 0} → Easing → List (Key V) → Result (Keyframes V) Cause
taken_curve easing keys = if is_none (curve_refusal keys) then Ok (keyframes keys easing) else Err BadCurve

abbrev pub curve_through : Easing → PropertyKeys → Result PropertyCurve Cause
curve_through easing (OpacityKeys keys) = taken_curve easing keys >>= λ curve. Ok (OpacityCurve curve)
curve_through easing (TransformKeys keys) = taken_curve easing keys >>= λ curve. Ok (TransformCurve curve)

-- the timing, lasting as long as the keys
abbrev pub lasting : ℕ → TimingParts → TimingParts
lasting duration timing = record timing { duration = duration }

-- the model of its line and its curve
abbrev pub model_with : ModelLine → PropertyCurve → Spec
model_with line curve =
    model_parts line.names.id line.names.group line.names.element line.names.timeline line.names.start
    (lasting (curve_duration curve) line.timing) line.policy curve

unfoldable pub model_through : ModelLine → PropertyKeys → Result Spec Cause
model_through line keys = do
  curve ← curve_through line.easing keys
  Ok (model_with line curve)

-- The last key of a model makes it a step of main.
unfoldable pub model_made : ScriptLists → ModelLine → PropertyKeys → Result ScriptState Cause
model_made script line keys = do
  model ← model_through line keys
  step_made script (EditStep (OnModels (AddModel model)))

abbrev pub after_key : ScriptLists → ModelLine → PropertyKeys → Result ScriptState Cause
after_key script line keys =
    if key_count keys == line.keys then model_made script line keys else Ok (at (InModel line keys) script)

unfoldable pub key_made : ScriptLists → ModelLine → PropertyKeys → List (List ℕ) → Result ScriptState Cause
key_made script line keys text = do
  more ← keys_with keys text
  after_key script line more

-- a line of main that says this
abbrev pub main_made : ScriptLists → MainLine → Result ScriptState Cause
main_made script (SaysStep step) = step_made script step
main_made script (SaysModel line) = model_begun script line

unfoldable pub in_main : ScriptLists → List (List ℕ) → Result ScriptState Cause
in_main script line = main_said script.version line >>= main_made script

-- ---- the compositor's steps

-- the last of these times, or 0 before the first
abbrev pub last_from : ℕ → List ℕ → ℕ
last_from time [] = time
last_from time (next ∷ times) = last_from next times

-- these numbers of ticks and of elements would make too many frames
abbrev pub are_too_many : ℕ → ℕ → Bool
are_too_many ticks elements = nat_lt MOST_FRAMES (ticks * elements)

-- why a step of the compositor may not be made after these steps, where `elements` counts the elements that were ever added
abbrev pub tick_refusal : ℕ → List ℕ → ℕ → Option Cause
tick_refusal elements ticks time =
    if nat_lt time (last_from 0 ticks) then Some TimeBack else
    if are_too_many (length ticks + 1) elements then Some (Edit (Limit Frames)) else
    None

abbrev pub compositor_refusal : ℕ → List ℕ → CompositorStep → Option Cause
compositor_refusal elements ticks Pull = None
compositor_refusal elements ticks Activate = None
compositor_refusal elements ticks (Tick time) = tick_refusal elements ticks time

-- the compositor's steps with one more, where it may be made; `elements` counts the elements that were ever added
unfoldable pub compositor_with : ℕ → List CompositorStep → CompositorStep → Result (List CompositorStep) Cause
compositor_with elements steps step = do
  room ← demand (has_room steps) (Edit (Limit Steps))
  allowed ← allow (compositor_refusal elements (ticks_of steps) step)
  Ok (steps ++ step ∷ [])

abbrev pub with_compositor : ScriptLists → List CompositorStep → ScriptLists
with_compositor script steps = record script { compositor = steps }

unfoldable pub compositor_made : ScriptLists → CompositorStep → Result ScriptState Cause
compositor_made script step = do
  steps ← compositor_with (book_of script.main).elements_added script.compositor step
  Ok (at InCompositor (with_compositor script steps))

-- ---- the word

-- the word has as many letters of each lane as the lane has steps
abbrev pub is_word_of : ℕ → ℕ → List Lane → Bool
is_word_of main compositor word = letters_of Main word == main && letters_of Compositor word == compositor

unfoldable pub word_made : ScriptLists → List Lane → Result ScriptState Cause
word_made script word = do
  counted ← demand (is_word_of (length script.main) (length script.compositor) word) BadWord
  Ok (at AtEnd (record script { word = word }))

unfoldable pub in_compositor : ScriptLists → List (List ℕ) → Result ScriptState Cause
in_compositor script [] = Err BadLine
in_compositor script (name ∷ line) =
    if bytes_eq name (codes "word") then (word_said line >>= word_made script) else
    (compositor_said script.version name line >>= compositor_made script)

-- ---- lines

abbrev pub with_version : ScriptLists → Version → ScriptLists
with_version script version = record script { version = version }

-- exactly this line leads to the stage
abbrev pub only : List ℕ → Cause → Stage → ScriptLists → List ℕ → Result ScriptState Cause
only text cause stage script line = if bytes_eq line text then Ok (at stage script) else Err cause

-- what a line makes of the stage and of the script so far
unfoldable pub at_stage : Stage → ScriptLists → List ℕ → Result ScriptState Cause
at_stage AtHeader script line = ok_or (header_said line) BadHeader >>= λ version. Ok (at AtMain (with_version script version))
at_stage AtMain script line = only (codes "main") BadLine InMain script line
at_stage InMain script line =
    if bytes_eq line (codes "compositor") then Ok (at InCompositor script) else in_main script (fields line)
at_stage (InModel model keys) script line = key_made script model keys (fields line)
at_stage InCompositor script line = in_compositor script (fields line)
at_stage AtEnd script line = only (codes "end") BadLine Ended script line
at_stage Ended script line = Err BadLine

-- a line that is skipped changes nothing
unfoldable pub after_line : ScriptState → List ℕ → Result ScriptState Cause
after_line state line = if is_skipped line then Ok state else at_stage state.stage state.script line

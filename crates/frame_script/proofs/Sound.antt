-- What is so in every state that lines lead to: what was read so far is well formed.
use Rattle.std.proofs.Common.{◌≡◌, ℕ, ◌+◌, ◌*◌, ◌<◌, ◌≤◌, Bool, true, false, cond, leb, ltb, eqb, List, [], ◌∷◌, ◌++◌, length, length-append, Option, Some, None, Ok, Err, refl, ap, sym, subst, ◌∙◌, arith}
use Rattle.std.specs.Prelude.{option_map, ok_or, is_none, fold}
use Rattle.std.specs.List.{AllByRecursion}
use Rattle.std.specs.Str.{bytes_eq}
use Rattle.std.specs.Prelude.{codes}
use Rattle.std.proofs.lemmas.Bool.{and_parts, le-leb, ltb-true, ltb-false, eqb-true, eqb-false}
use Rattle.std.proofs.lemmas.List.Elements.{All-from_recursion}
use Rattle.anim_names.specs.Lanes.{letters_of}
use Rattle.anim_names.specs.declared.lane.Lane.{Lane}
use Rattle.anim_names.specs.declared.lane.Lane.TheVariants.{Main, Compositor}
use Rattle.anim_names.specs.declared.limit.LimitName.TheVariants.{Steps, Commits, Frames}
use Rattle.anim_names.specs.declared.limit.TheConstants.{MOST_STEPS, MOST_COMMITS, MOST_FRAMES}
use Rattle.anim_names.specs.declared.property.Property.{Property}
use Rattle.anim_names.specs.declared.property.Property.TheVariants.{Opacity, Transform}
use Rattle.anim_timeline.specs.declared.TheConstants.{LAST_TIME}
use Rattle.easing_fixed.specs.declared.easing.Easing.{Easing}
use Rattle.easing_fixed.specs.Easings.{IsEasing}
use Rattle.value_blend.specs.Blends.{IsOpacity}
use Rattle.transform_ops.specs.Lists.{IsList}
use Rattle.curve_keys.specs.declared.key.Key.{Key}
use Rattle.curve_keys.specs.declared.fault.CurveFault.{CurveFault}
use Rattle.curve_keys.specs.Curves.{Keyframes, keyframes, IsKey, IsCurve, curve_refusal}
use Rattle.curve_keys.proofs.Keys.{IsCurve-lasts}
use Rattle.keyframe_model.specs.Models.{PropertyCurve, OpacityCurve, TransformCurve, IsPropertyCurve, property_of_curve, curve_duration, IsModel}
use Rattle.tree_commit.specs.declared.edits.refusal.EditRefusal.{EditRefusal}
use Rattle.tree_commit.specs.declared.edits.refusal.EditRefusal.TheVariants.{Limit}
use Rattle.run_rules.specs.declared.compositor_step.CompositorStep.{CompositorStep}
use Rattle.run_rules.specs.declared.compositor_step.CompositorStep.TheVariants.{Pull, Activate, Tick}
use Rattle.tree_commit.specs.Edits.{Book, new_book, OnModels, AddModel, edit_refusal}
use Rattle.run_rules.specs.Scripts.{StepOfMain, EditStep, CommitStep, DrainStep, ScriptLists, IsWordOf, book_after_step, book_of, IsStep, is_allowed, are_allowed, ticks_of, never_fall_from, are_at_most, IsWellFormed}
use Rattle.script_fields.specs.Fields.{◌>>=◌, fields}
use Rattle.script_fields.specs.Lists.{is_list_long}
use Rattle.script_fields.proofs.Ranges.{bind_ok}
use Rattle.frame_script.specs.declared.cause.Cause.{Cause}
use Rattle.frame_script.specs.declared.cause.Cause.TheVariants.{Edit, BadHeader, BadLine, BadCurve, TimeBack, BadWord}
use Rattle.frame_script.specs.declared.model_line.ModelLine.{ModelLine}
use Rattle.frame_script.specs.Causes.{demand, allow}
use Rattle.frame_script.specs.Headers.{header_said}
use Rattle.frame_script.specs.Lines.{is_skipped}
use Rattle.frame_script.specs.Said.{SaysStep, SaysModel, main_said, model_said, step_said, key_said, is_one, own_opacity, own_list, compositor_said, word_said}
use Rattle.frame_script.specs.States.{PropertyKeys, OpacityKeys, TransformKeys, Stage, AtHeader, AtMain, InMain, InModel, InCompositor, AtEnd, Ended, ScriptState, at, beginning, has_room, step_refusal, main_with, with_main, step_made, no_keys, model_allowed, model_begun, with_key, keys_with, key_count, taken_curve, curve_through, model_with, model_through, model_made, after_key, key_made, main_made, in_main, last_from, are_too_many, compositor_refusal, compositor_with, with_compositor, compositor_made, is_word_of, word_made, in_compositor, with_version, only, at_stage, after_line}
use Rattle.frame_script.specs.Texts.{LeadTo, Spells}
use Rattle.frame_script.proofs.Books.{allowed_is, ticks_with, ticks_of-push}
use Rattle.frame_script.proofs.Ranges.{done, ok_is, guarded, picked, IsLine, line_in_range, step_in_range, key_in_range, own_opacity_fits, own_list_fits, IsCompositorStep, compositor_in_range}
use Rattle.frame_script.proofs.Lasting.{lasting_fits, demand_is, AreKeys, no_keys_yet, one_key_more, every-push}

-- ---- main's steps

pub record IsMain (steps : List StepOfMain) : Type 0 where
  pub few : length steps ≤ MOST_STEPS
  pub ranges : AllByRecursion IsStep steps
  pub edits : are_allowed new_book steps ≡ true

are_allowed-push : (book : Book) (steps : List StepOfMain) (step : StepOfMain) → are_allowed book steps ≡ true
    → is_allowed (fold book_after_step book steps) step ≡ true → are_allowed book (steps ++ step ∷ []) ≡ true
unfolding are_allowed
are_allowed-push book [] step all here = rw here refl
are_allowed-push book (first ∷ steps) step all here =
    let b = and_parts (is_allowed book first) (are_allowed (book_after_step book first) steps) all in
    rw (b.0, are_allowed-push (book_after_step book first) steps step b.1 here) refl

no_refusal : (refusal : Option EditRefusal) → option_map Edit refusal ≡ None → refusal ≡ None
no_refusal None h = refl
no_refusal (Some r) h = absurd cc

no_limit : (test : Bool) (cause : Cause) → cond test None (Some cause) ≡ None → test ≡ true
no_limit true cause h = refl
no_limit false cause h = absurd cc

allowed_step : (book : Book) (step : StepOfMain) → step_refusal book step ≡ None → is_allowed book step ≡ true
allowed_step book (EditStep change) h = ap is_none (no_refusal (edit_refusal book change) h)
allowed_step book CommitStep h = no_limit (ltb book.commits MOST_COMMITS) (Edit (Limit Commits)) h
allowed_step book DrainStep h = refl

pub main_with_fits : (steps all : List StepOfMain) (step : StepOfMain) → IsMain steps → IsStep step → main_with steps step ≡ Ok all → IsMain all
unfolding main_with
main_with_fits steps all step fits here h =
    let d = bind_ok (demand (has_room steps) (Edit (Limit Steps))) (λ room. allow (step_refusal (book_of steps) step) >>= λ allowed. done (steps ++ step ∷ [])) all h in
    let a = bind_ok (allow (step_refusal (book_of steps) step)) (λ allowed. done (steps ++ step ∷ [])) all d.2 in
    let room = ltb-true (length steps) MOST_STEPS (demand_is (has_room steps) (Edit (Limit Steps)) d.1) in
    let allowed = allowed_step (book_of steps) step (allowed_is (step_refusal (book_of steps) step) a.1) in
    subst IsMain (ok_is (steps ++ step ∷ []) all a.2) (record {
      few = omega (arith, length-append steps (step ∷ []), room);
      ranges = every-push IsStep steps step fits.ranges here;
      edits = are_allowed-push new_book steps step fits.edits allowed;
    })

-- ---- the compositor's steps

pub record IsCompositor (elements : ℕ) (steps : List CompositorStep) : Type 0 where
  pub few : length steps ≤ MOST_STEPS
  pub order : never_fall_from 0 (ticks_of steps) ≡ true
  pub times : are_at_most LAST_TIME (ticks_of steps) ≡ true
  pub frames : length (ticks_of steps) * elements ≤ MOST_FRAMES

-- the same of the times of ticks
record AreTicks (elements : ℕ) (ticks : List ℕ) : Type 0 where
  order : never_fall_from 0 ticks ≡ true
  times : are_at_most LAST_TIME ticks ≡ true
  frames : length ticks * elements ≤ MOST_FRAMES

never_fall-push : (least : ℕ) (times : List ℕ) (time : ℕ) → never_fall_from least times ≡ true → last_from least times ≤ time → never_fall_from least (times ++ time ∷ []) ≡ true
never_fall-push least [] time all le = rw (le-leb least time le) refl
never_fall-push least (next ∷ times) time all le =
    let b = and_parts (leb least next) (never_fall_from next times) all in
    rw (b.0, never_fall-push next times time b.1 le) refl

at_most-push : (most : ℕ) (times : List ℕ) (time : ℕ) → are_at_most most times ≡ true → time ≤ most → are_at_most most (times ++ time ∷ []) ≡ true
at_most-push most [] time all le = rw (le-leb time most le) refl
at_most-push most (next ∷ times) time all le =
    let b = and_parts (leb next most) (are_at_most most times) all in
    rw (b.0, at_most-push most times time b.1 le) refl

not_refused : (back many : Bool) → cond back (Some TimeBack) (cond many (Some (Edit (Limit Frames))) None) ≡ None → (back ≡ false) × (many ≡ false)
not_refused true many h = absurd cc
not_refused false true h = absurd cc
not_refused false false h = (refl, refl)

ticks_fit : (elements : ℕ) (ticks : List ℕ) (step : CompositorStep) → AreTicks elements ticks → IsCompositorStep step → compositor_refusal elements ticks step ≡ None
    → AreTicks elements (ticks_with ticks step)
ticks_fit elements ticks Pull fits here h = fits
ticks_fit elements ticks Activate fits here h = fits
ticks_fit elements ticks (Tick time) fits here h =
    let n = not_refused (ltb time (last_from 0 ticks)) (are_too_many (length ticks + 1) elements) h in
    let many : (length ticks + 1) * elements ≤ MOST_FRAMES = ltb-false MOST_FRAMES ((length ticks + 1) * elements) n.1 in
    record {
      order = never_fall-push 0 ticks time fits.order (ltb-false time (last_from 0 ticks) n.0);
      times = at_most-push LAST_TIME ticks time fits.times here;
      frames = rw (length-append ticks (time ∷ [])) many;
    }

pub compositor_with_fits : (elements : ℕ) (steps all : List CompositorStep) (step : CompositorStep) → IsCompositor elements steps → IsCompositorStep step
    → compositor_with elements steps step ≡ Ok all → IsCompositor elements all
unfolding compositor_with
compositor_with_fits elements steps all step fits here h =
    let d = bind_ok (demand (has_room steps) (Edit (Limit Steps))) (λ room. allow (compositor_refusal elements (ticks_of steps) step) >>= λ allowed. done (steps ++ step ∷ [])) all h in
    let a = bind_ok (allow (compositor_refusal elements (ticks_of steps) step)) (λ allowed. done (steps ++ step ∷ [])) all d.2 in
    let room = ltb-true (length steps) MOST_STEPS (demand_is (has_room steps) (Edit (Limit Steps)) d.1) in
    let before : AreTicks elements (ticks_of steps) = record { order = fits.order; times = fits.times; frames = fits.frames } in
    let ticks = ticks_fit elements (ticks_of steps) step before here (allowed_is (compositor_refusal elements (ticks_of steps) step) a.1) in
    let after : AreTicks elements (ticks_of (steps ++ step ∷ [])) = subst (λ (ts : List ℕ). AreTicks elements ts) (sym (ticks_of-push steps step)) ticks in
    subst (λ (ss : List CompositorStep). IsCompositor elements ss) (ok_is (steps ++ step ∷ []) all a.2) (record {
      few = omega (arith, length-append steps (step ∷ []), room);
      order = after.order;
      times = after.times;
      frames = after.frames;
    })

no_ticks : (elements : ℕ) → IsCompositor elements []
no_ticks elements = record { few = omega arith; order = refl; times = refl; frames = omega arith }

-- ---- states

abbrev pub AreKeysOf : ModelLine → PropertyKeys → Type 0
AreKeysOf line (OpacityKeys keys) = (line.names.property ≡ Opacity) × AreKeys IsOpacity line.keys keys
AreKeysOf line (TransformKeys keys) = (line.names.property ≡ Transform) × AreKeys IsList line.keys keys

pub record IsDraft (script : ScriptLists) (line : ModelLine) (keys : PropertyKeys) : Type 0 where
  pub no_steps : script.compositor ≡ []
  pub line_fits : IsLine line
  pub keys_fit : AreKeysOf line keys
  pub allowed : model_allowed script.main line.names ≡ Ok tt

pub record IsFull (script : ScriptLists) : Type 0 where
  pub compositor : IsCompositor (book_of script.main).elements_added script.compositor
  pub word : IsWordOf (length script.main) (length script.compositor) script.word

abbrev pub IsStage : Stage → ScriptLists → Type 0
IsStage AtHeader script = script.compositor ≡ []
IsStage AtMain script = script.compositor ≡ []
IsStage InMain script = script.compositor ≡ []
IsStage (InModel line keys) script = IsDraft script line keys × (key_count keys < line.keys)
IsStage InCompositor script = IsCompositor (book_of script.main).elements_added script.compositor
IsStage AtEnd script = IsFull script
IsStage Ended script = IsFull script

pub record IsSound (state : ScriptState) : Type 0 where
  pub main : IsMain state.script.main
  pub stage : IsStage state.stage state.script

-- ---- steps of main

step_made_fits : (script : ScriptLists) (step : StepOfMain) (next : ScriptState) → IsMain script.main → script.compositor ≡ [] → IsStep step → step_made script step ≡ Ok next → IsSound next
unfolding step_made
step_made_fits script step next main none here h =
    let m = bind_ok (main_with script.main step) (λ steps. done (at InMain (with_main script steps))) next h in
    subst IsSound (ok_is (at InMain (with_main script m.0)) next m.2) (record {
      main = main_with_fits script.main m.0 step main here m.1;
      stage = none;
    })

-- ---- models

taken_is : {V : Type 0} (refusal : Option CurveFault) (curve made : Keyframes V) → cond (is_none refusal) (done curve) (Err BadCurve) ≡ done made → (refusal ≡ None) × (curve ≡ made)
taken_is None curve made h = (refl, ok_is curve made h)
taken_is (Some fault) curve made h = absurd cc

curve_fits : {V : Type 0} (is_value : V → Type 0) (most : ℕ) (easing : Easing) (keys : List (Key V)) (curve : Keyframes V) → IsEasing easing → AreKeys is_value most keys
    → taken_curve easing keys ≡ Ok curve → IsCurve is_value curve
unfolding taken_curve
curve_fits {V} is_value most easing keys curve bends fits h =
    let t = taken_is (curve_refusal keys) (keyframes keys easing) curve h in
    subst (λ (c : Keyframes V). IsCurve is_value c) t.1 (record { taken = t.0; each = All-from_recursion (IsKey is_value) keys fits.each; easing = bends })

-- the curve through the keys of a line is one of its property, and lasts
record IsCurveOf (line : ModelLine) (curve : PropertyCurve) : Type 0 where
  fits : IsPropertyCurve curve
  some : 0 < curve_duration curve
  short : curve_duration curve ≤ Rattle.micro_time.specs.declared.TheConstants.LONGEST_DURATION
  property : property_of_curve curve ≡ line.names.property

curve_through_fits : (line : ModelLine) (keys : PropertyKeys) (curve : PropertyCurve) → IsLine line → AreKeysOf line keys → curve_through line.easing keys ≡ Ok curve → IsCurveOf line curve
curve_through_fits line (OpacityKeys keys) curve fits are h =
    let c = bind_ok (taken_curve line.easing keys) (λ curve. done (OpacityCurve curve)) curve h in
    let is = curve_fits IsOpacity line.keys line.easing keys c.0 fits.easing are.1 c.1 in
    let lasts = IsCurve-lasts IsOpacity c.0 is in
    subst (λ (p : PropertyCurve). IsCurveOf line p) (ok_is (OpacityCurve c.0) curve c.2) (record { fits = is; some = lasts.0; short = lasts.1; property = sym are.0 })
curve_through_fits line (TransformKeys keys) curve fits are h =
    let c = bind_ok (taken_curve line.easing keys) (λ curve. done (TransformCurve curve)) curve h in
    let is = curve_fits IsList line.keys line.easing keys c.0 fits.easing are.1 c.1 in
    let lasts = IsCurve-lasts IsList c.0 is in
    subst (λ (p : PropertyCurve). IsCurveOf line p) (ok_is (TransformCurve c.0) curve c.2) (record { fits = is; some = lasts.0; short = lasts.1; property = sym are.0 })

model_fits : (line : ModelLine) (curve : PropertyCurve) → IsLine line → IsCurveOf line curve → IsModel (model_with line curve)
model_fits line curve fits is = record {
  id = fits.names.id;
  group = fits.names.group;
  element = fits.names.element;
  timeline = fits.names.timeline;
  start = fits.names.start;
  timing = lasting_fits (curve_duration curve) line.timing is.some is.short fits.timing;
  duration = refl;
  curve = is.fits;
}

model_made_fits : (script : ScriptLists) (line : ModelLine) (keys : PropertyKeys) (next : ScriptState) → IsMain script.main → IsDraft script line keys → model_made script line keys ≡ Ok next → IsSound next
unfolding model_made model_through
model_made_fits script line keys next main draft h =
    let m = bind_ok (curve_through line.easing keys >>= λ curve. done (model_with line curve)) (λ model. step_made script (EditStep (OnModels (AddModel model)))) next h in
    let c = bind_ok (curve_through line.easing keys) (λ curve. done (model_with line curve)) m.0 m.1 in
    let is = curve_through_fits line keys c.0 draft.line_fits draft.keys_fit c.1 in
    let model : IsModel m.0 = subst IsModel (ok_is (model_with line c.0) m.0 c.2) (model_fits line c.0 draft.line_fits is) in
    step_made_fits script (EditStep (OnModels (AddModel m.0))) next main draft.no_steps model m.2

-- the keys with a further one
pub keys_with_fit : (line : ModelLine) (keys more : PropertyKeys) (text : List (List ℕ)) → AreKeysOf line keys → key_count keys < line.keys → keys_with keys text ≡ Ok more
    → AreKeysOf line more × (key_count more ≤ line.keys)
unfolding keys_with
keys_with_fit line (OpacityKeys keys) more text are room h =
    let k = bind_ok (key_said is_one own_opacity text) (λ key. with_key keys key >>= λ ks. done (OpacityKeys ks)) more h in
    let w = bind_ok (with_key keys k.0) (λ ks. done (OpacityKeys ks)) more k.2 in
    let here = key_in_range IsOpacity is_one own_opacity text k.0 own_opacity_fits k.1 in
    let fit = one_key_more IsOpacity line.keys keys w.0 k.0 are.1 room here w.1 in
    subst (λ (p : PropertyKeys). AreKeysOf line p × (key_count p ≤ line.keys)) (ok_is (OpacityKeys w.0) more w.2) ((are.0, fit.0), fit.0.few)
keys_with_fit line (TransformKeys keys) more text are room h =
    let k = bind_ok (key_said is_list_long own_list text) (λ key. with_key keys key >>= λ ks. done (TransformKeys ks)) more h in
    let w = bind_ok (with_key keys k.0) (λ ks. done (TransformKeys ks)) more k.2 in
    let here = key_in_range IsList is_list_long own_list text k.0 own_list_fits k.1 in
    let fit = one_key_more IsList line.keys keys w.0 k.0 are.1 room here w.1 in
    subst (λ (p : PropertyKeys). AreKeysOf line p × (key_count p ≤ line.keys)) (ok_is (TransformKeys w.0) more w.2) ((are.0, fit.0), fit.0.few)

after_key_fits : (test : Bool) (script : ScriptLists) (line : ModelLine) (keys : PropertyKeys) (next : ScriptState) → eqb (key_count keys) line.keys ≡ test → IsMain script.main → IsDraft script line keys
    → key_count keys ≤ line.keys → cond test (model_made script line keys) (Ok (at (InModel line keys) script)) ≡ Ok next → IsSound next
after_key_fits true script line keys next is main draft few h = model_made_fits script line keys next main draft h
after_key_fits false script line keys next is main draft few h =
    let other = eqb-false (key_count keys) line.keys is in
    subst IsSound (ok_is (at (InModel line keys) script) next h) (record { main = main; stage = (draft, omega (arith, few, other)) })

key_made_fits : (script : ScriptLists) (line : ModelLine) (keys : PropertyKeys) (text : List (List ℕ)) (next : ScriptState) → IsMain script.main → IsDraft script line keys → key_count keys < line.keys
    → key_made script line keys text ≡ Ok next → IsSound next
unfolding key_made
key_made_fits script line keys text next main draft room h =
    let k = bind_ok (keys_with keys text) (after_key script line) next h in
    let fit = keys_with_fit line keys k.0 text draft.keys_fit room k.1 in
    let more : IsDraft script line k.0 = record { no_steps = draft.no_steps; line_fits = draft.line_fits; keys_fit = fit.0; allowed = draft.allowed } in
    after_key_fits (eqb (key_count k.0) line.keys) script line k.0 next refl main more fit.1 k.2

no_keys_fit : (line : ModelLine) (property : Property) → line.names.property ≡ property → AreKeysOf line (no_keys property) × (key_count (no_keys property) ≡ 0)
no_keys_fit line Opacity is = ((is, no_keys_yet IsOpacity line.keys), refl)
no_keys_fit line Transform is = ((is, no_keys_yet IsList line.keys), refl)

model_begun_fits : (script : ScriptLists) (line : ModelLine) (next : ScriptState) → IsMain script.main → script.compositor ≡ [] → IsLine line → model_begun script line ≡ Ok next → IsSound next
unfolding model_begun
model_begun_fits script line next main none fits h =
    let a = bind_ok (model_allowed script.main line.names) (λ allowed. done (at (InModel line (no_keys line.names.property)) script)) next h in
    let keys = no_keys_fit line line.names.property refl in
    subst IsSound (ok_is (at (InModel line (no_keys line.names.property)) script) next a.2) (record {
      main = main;
      stage = (record { no_steps = none; line_fits = fits; keys_fit = keys.0; allowed = a.1 }, omega (arith, keys.1, fits.fewest));
    })

-- ---- lines of main

main_fits : (script : ScriptLists) (text : List (List ℕ)) (next : ScriptState) → IsMain script.main → script.compositor ≡ [] → in_main script text ≡ Ok next → IsSound next
unfolding in_main
main_fits script [] next main none h = absurd cc
main_fits script (name ∷ text) next main none h =
    let s = bind_ok (main_said script.version (name ∷ text)) (main_made script) next h in
    picked (IsSound next) (bytes_eq name (codes "model")) (model_said text >>= λ line. done (SaysModel line)) (step_said script.version name text >>= λ step. done (SaysStep step)) s.0
    (λ k.
    let m = bind_ok (model_said text) (λ line. done (SaysModel line)) s.0 k in
    model_begun_fits script m.0 next main none (line_in_range text m.0 m.1) (ap (main_made script) (ok_is (SaysModel m.0) s.0 m.2) ∙ s.2))
    (λ k.
    let m = bind_ok (step_said script.version name text) (λ step. done (SaysStep step)) s.0 k in
    step_made_fits script m.0 next main none (step_in_range script.version name text m.0 m.1) (ap (main_made script) (ok_is (SaysStep m.0) s.0 m.2) ∙ s.2))
    s.1

-- ---- lines of the compositor

compositor_made_fits : (script : ScriptLists) (step : CompositorStep) (next : ScriptState) → IsMain script.main → IsCompositor (book_of script.main).elements_added script.compositor → IsCompositorStep step
    → compositor_made script step ≡ Ok next → IsSound next
unfolding compositor_made
compositor_made_fits script step next main fits here h =
    let c = bind_ok (compositor_with (book_of script.main).elements_added script.compositor step) (λ steps. done (at InCompositor (with_compositor script steps))) next h in
    subst IsSound (ok_is (at InCompositor (with_compositor script c.0)) next c.2) (record {
      main = main;
      stage = compositor_with_fits (book_of script.main).elements_added script.compositor c.0 step fits here c.1;
    })

word_made_fits : (script : ScriptLists) (word : List Lane) (next : ScriptState) → IsMain script.main → IsCompositor (book_of script.main).elements_added script.compositor
    → word_made script word ≡ Ok next → IsSound next
unfolding word_made
word_made_fits script word next main fits h =
    let d = bind_ok (demand (is_word_of (length script.main) (length script.compositor) word) BadWord) (λ counted. done (at AtEnd (record script { word = word }))) next h in
    let b = and_parts (eqb (letters_of Main word) (length script.main)) (eqb (letters_of Compositor word) (length script.compositor)) (demand_is _ BadWord d.1) in
    subst IsSound (ok_is (at AtEnd (record script { word = word })) next d.2) (record {
      main = main;
      stage = record {
        compositor = fits;
        word = record {
          of_main = eqb-true (letters_of Main word) (length script.main) b.0;
          of_compositor = eqb-true (letters_of Compositor word) (length script.compositor) b.1;
        };
      };
    })

compositor_fits : (script : ScriptLists) (text : List (List ℕ)) (next : ScriptState) → IsMain script.main → IsCompositor (book_of script.main).elements_added script.compositor
    → in_compositor script text ≡ Ok next → IsSound next
unfolding in_compositor
compositor_fits script [] next main fits h = absurd cc
compositor_fits script (name ∷ text) next main fits h =
    picked (IsSound next) (bytes_eq name (codes "word")) (word_said text >>= word_made script) (compositor_said script.version name text >>= compositor_made script) next
    (λ k. let w = bind_ok (word_said text) (word_made script) next k in word_made_fits script w.0 next main fits w.2)
    (λ k.
    let s = bind_ok (compositor_said script.version name text) (compositor_made script) next k in
    compositor_made_fits script s.0 next main fits (compositor_in_range script.version name text s.0 s.1) s.2)
    h

-- ---- every line

only_fits : (text : List ℕ) (cause : Cause) (stage : Stage) (script : ScriptLists) (line : List ℕ) (next : ScriptState) → IsMain script.main → IsStage stage script
    → only text cause stage script line ≡ Ok next → IsSound next
only_fits text cause stage script line next main here h =
    let g = guarded (bytes_eq line text) (done (at stage script)) cause next h in
    subst IsSound (ok_is (at stage script) next g.1) (record { main = main; stage = here })

stage_fits : (stage : Stage) (script : ScriptLists) (line : List ℕ) (next : ScriptState) → IsMain script.main → IsStage stage script → at_stage stage script line ≡ Ok next → IsSound next
unfolding at_stage
stage_fits AtHeader script line next main here h =
    let v = bind_ok (ok_or (header_said line) BadHeader) (λ version. done (at AtMain (with_version script version))) next h in
    subst IsSound (ok_is (at AtMain (with_version script v.0)) next v.2) (record { main = main; stage = here })
stage_fits AtMain script line next main here h = only_fits (codes "main") BadLine InMain script line next main here h
stage_fits InMain script line next main here h =
    picked (IsSound next) (bytes_eq line (codes "compositor")) (done (at InCompositor script)) (in_main script (fields line)) next
    (λ k. subst IsSound (ok_is (at InCompositor script) next k) (record {
      main = main;
      stage = subst (λ (ss : List CompositorStep). IsCompositor (book_of script.main).elements_added ss) (sym here) (no_ticks _);
    }))
    (main_fits script (fields line) next main here) h
stage_fits (InModel model keys) script line next main here h = key_made_fits script model keys (fields line) next main here.0 here.1 h
stage_fits InCompositor script line next main here h = compositor_fits script (fields line) next main here h
stage_fits AtEnd script line next main here h = only_fits (codes "end") BadLine Ended script line next main here h
stage_fits Ended script line next main here h = absurd cc

line_fits : (state next : ScriptState) (line : List ℕ) → IsSound state → after_line state line ≡ Ok next → IsSound next
unfolding after_line
line_fits state next line sound h =
    picked (IsSound next) (is_skipped line) (done state) (at_stage state.stage state.script line) next
    (λ k. subst IsSound (ok_is state next k) sound)
    (stage_fits state.stage state.script line next sound.main sound.stage) h

pub lead_to_sound : (from to : ScriptState) (text : List (List ℕ)) → IsSound from → LeadTo from text to → IsSound to
lead_to_sound from to [] sound leads = subst IsSound leads sound
lead_to_sound from to (line ∷ more) sound leads = lead_to_sound leads.0 to more (line_fits from leads.0 line sound leads.1) leads.2

sound_beginning : IsSound beginning
unfolding are_allowed
sound_beginning = record { main = record { few = omega arith; ranges = tt; edits = refl }; stage = refl }

pub reached_is_sound : (to : ScriptState) (text : List (List ℕ)) → LeadTo beginning text to → IsSound to
reached_is_sound to text leads = lead_to_sound beginning to text sound_beginning leads

pub spelled_is_well_formed : (bytes : List ℕ) (script : ScriptLists) → Spells bytes script → IsWellFormed script
spelled_is_well_formed bytes script spelled =
    let sound = reached_is_sound (at Ended script) _ spelled.leads in
    record {
      main_steps = sound.main.few;
      compositor_steps = sound.stage.compositor.few;
      ranges = sound.main.ranges;
      edits = sound.main.edits;
      order = sound.stage.compositor.order;
      times = sound.stage.compositor.times;
      frames = sound.stage.compositor.frames;
      word = sound.stage.word;
    }

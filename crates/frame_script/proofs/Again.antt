-- What is checked again at the last key of a model was decided before: it never refuses.
use Rattle.std.proofs.Common.{◌≡◌, ℕ, Bool, true, false, cond, eqb, List, [], ◌∷◌, ◌++◌, Option, None, Ok, refl, ap, sym, ◌∙◌}
use Rattle.std.specs.Prelude.{option_map}
use Rattle.std.proofs.lemmas.Bool.{eqb-true}
use Rattle.anim_names.specs.declared.limit.LimitName.TheVariants.{Steps}
use Rattle.anim_names.specs.declared.property.Property.{Property}
use Rattle.value_blend.specs.Blends.{IsOpacity}
use Rattle.transform_ops.specs.Lists.{IsList}
use Rattle.curve_keys.specs.Curves.{keyframes}
use Rattle.keyframe_model.specs.Models.{PropertyCurve, OpacityCurve, TransformCurve, property_of_curve}
use Rattle.tree_commit.specs.declared.edits.refusal.EditRefusal.TheVariants.{Limit}
use Rattle.tree_commit.specs.Edits.{OnModels, AddModel, edit_refusal, model_refusal}
use Rattle.run_rules.specs.Scripts.{StepOfMain, EditStep, ScriptLists, book_of}
use Rattle.script_fields.specs.Fields.{fields}
use Rattle.script_fields.proofs.Ranges.{bind_ok}
use Rattle.frame_script.specs.declared.cause.Cause.{Cause}
use Rattle.frame_script.specs.declared.cause.Cause.TheVariants.{Edit}
use Rattle.frame_script.specs.declared.model_line.ModelLine.{ModelLine}
use Rattle.frame_script.specs.Causes.{demand, allow}
use Rattle.frame_script.specs.States.{PropertyKeys, OpacityKeys, TransformKeys, InMain, InModel, ScriptState, at, beginning, has_room, main_with, with_main, step_made, names_refusal, model_allowed, keys_with, key_count, taken_curve, curve_through, model_with, model_through, model_made, after_key}
use Rattle.frame_script.specs.Texts.{LeadTo}
use Rattle.frame_script.proofs.Books.{allowed_is}
use Rattle.frame_script.proofs.Ranges.{IsLine}
use Rattle.frame_script.proofs.Lasting.{make_a_curve}
use Rattle.frame_script.proofs.Sound.{AreKeysOf, IsDraft, reached_is_sound, keys_with_fit}

-- the curve is made, and it is one of the line's property
record MakesCurve (line : ModelLine) (keys : PropertyKeys) : Type 0 where
  curve : PropertyCurve
  made : curve_through line.easing keys ≡ Ok curve
  property : property_of_curve curve ≡ line.names.property

makes_curve : (line : ModelLine) (keys : PropertyKeys) → IsLine line → AreKeysOf line keys → key_count keys ≡ line.keys → MakesCurve line keys
unfolding taken_curve
makes_curve line (OpacityKeys keys) fits are all =
    record {
      curve = OpacityCurve (keyframes keys line.easing);
      made = rw (make_a_curve IsOpacity line.keys keys are.1 all fits.fewest fits.most) refl;
      property = sym are.0;
    }
makes_curve line (TransformKeys keys) fits are all =
    record {
      curve = TransformCurve (keyframes keys line.easing);
      made = rw (make_a_curve IsList line.keys keys are.1 all fits.fewest fits.most) refl;
      property = sym are.0;
    }

-- the model may be added as its line was
still_allowed : (steps : List StepOfMain) (line : ModelLine) (curve : PropertyCurve) → property_of_curve curve ≡ line.names.property → model_allowed steps line.names ≡ Ok tt
    → main_with steps (EditStep (OnModels (AddModel (model_with line curve)))) ≡ Ok (steps ++ EditStep (OnModels (AddModel (model_with line curve))) ∷ [])
unfolding model_allowed main_with edit_refusal
still_allowed steps line curve same allowed =
    let d = bind_ok (demand (has_room steps) (Edit (Limit Steps))) (λ room. allow (names_refusal (book_of steps) line.names)) tt allowed in
    let none = allowed_is (names_refusal (book_of steps) line.names) d.2 in
    let refusal : Property → Option Cause = λ p. option_map Edit (model_refusal (book_of steps) line.names.id line.names.group line.names.element line.names.timeline line.names.start p) in
    let other : refusal (property_of_curve curve) ≡ None = ap refusal same ∙ none in
    rw (d.1, other) refl

model_is_made : (script : ScriptLists) (line : ModelLine) (keys : PropertyKeys) → IsDraft script line keys → key_count keys ≡ line.keys → (next : ScriptState) × (model_made script line keys ≡ Ok next)
unfolding model_made model_through step_made
model_is_made script line keys draft all =
    let c = makes_curve line keys draft.line_fits draft.keys_fit all in
    let m = still_allowed script.main line c.curve c.property draft.allowed in
    (at InMain (with_main script (script.main ++ EditStep (OnModels (AddModel (model_with line c.curve))) ∷ [])), rw (c.made, m) refl)

made_or_not : (test : Bool) (script : ScriptLists) (line : ModelLine) (keys : PropertyKeys) → eqb (key_count keys) line.keys ≡ test → IsDraft script line keys
    → (next : ScriptState) × (cond test (model_made script line keys) (Ok (at (InModel line keys) script)) ≡ Ok next)
made_or_not true script line keys is draft = model_is_made script line keys draft (eqb-true (key_count keys) line.keys is)
made_or_not false script line keys is draft = (at (InModel line keys) script, refl)

pub last_key_is_taken : (before : List (List ℕ)) (script : ScriptLists) (line : ModelLine) (keys more : PropertyKeys) (text : List ℕ)
    → LeadTo beginning before (at (InModel line keys) script) → keys_with keys (fields text) ≡ Ok more → (next : ScriptState) × (after_key script line more ≡ Ok next)
last_key_is_taken before script line keys more text leads said =
    let sound = reached_is_sound (at (InModel line keys) script) before leads in
    let draft = sound.stage.0 in
    let fit = keys_with_fit line keys more (fields text) draft.keys_fit sound.stage.1 said in
    let next : IsDraft script line more = record { no_steps = draft.no_steps; line_fits = draft.line_fits; keys_fit = fit.0; allowed = draft.allowed } in
    made_or_not (eqb (key_count more) line.keys) script line more refl next

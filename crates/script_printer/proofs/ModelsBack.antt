-- The lines that a model is printed as lead to the script with that model.
use Rattle.std.proofs.Common.{◌≡◌, ℕ, ◌^◌, ◌<◌, ◌≤◌, Bool, true, false, cond, eqb, ltb, ℤ, pos, List, [], ◌∷◌, ◌++◌, inl, inr, length, length-append, append_assoc, Option, Some, None, Result, Ok, refl, ap, sym, subst, ◌∙◌, arith}
use Rattle.std.specs.Prelude.{codes, option_map, unsigned_abs}
use Rattle.std.specs.Fmt.{decimal, signed_decimal}
use Rattle.std.specs.List.{AllByRecursion, flat_map}
use Rattle.std.proofs.lemmas.Bool.{and_parts, le-leb, ltb-false, eq-eqb}
use Rattle.std.proofs.lemmas.List.{append-nil}
use Rattle.std.proofs.lemmas.List.Elements.{recursion_from_All}
use Rattle.std.proofs.lemmas.Bool.Decides.{eqb_tells}
use Rattle.anim_names.specs.declared.limit.LimitName.TheVariants.{Steps}
use Rattle.micro_time.specs.Timings.{TimingParts, IsTiming}
use Rattle.easing_fixed.specs.Easings.{IsEasing}
use Rattle.value_blend.specs.Blends.{IsOpacity}
use Rattle.transform_ops.specs.declared.op.TransformOp.{TransformOp}
use Rattle.transform_ops.specs.Lists.{IsList}
use Rattle.curve_keys.specs.declared.TheConstants.{FEWEST_KEYS, MOST_KEYS}
use Rattle.curve_keys.specs.declared.key.Key.{Key}
use Rattle.curve_keys.specs.declared.fault.CurveFault.{CurveFault}
use Rattle.curve_keys.specs.Curves.{Keyframes, IsKey, is_rising, is_rising_from, begins_at_zero, last_time, curve_refusal}
use Rattle.keyframe_model.specs.Models.{PropertyCurve, OpacityCurve, TransformCurve, IsPropertyCurve, property_of_curve, curve_duration, Spec, IsModel, IsId}
use Rattle.tree_commit.specs.declared.edits.refusal.EditRefusal.TheVariants.{Limit}
use Rattle.tree_commit.specs.Edits.{OnModels, AddModel, edit_refusal, model_refusal}
use Rattle.run_rules.specs.Scripts.{EditStep, ScriptLists, book_of}
use Rattle.script_fields.specs.Fields.{◌>>=◌, joined}
use Rattle.script_fields.specs.Printed.{property_text, direction_text, fill_text, policy_text, start_text, iterations_text, easing_text, list_fields}
use Rattle.script_fields.specs.Lists.{is_list_long}
use Rattle.script_fields.proofs.Ranges.{bind_ok}
use Rattle.script_fields.proofs.ReadBack.{IsField, plain_field, decimal_plain, signed_plain, text_field, are_within, number_back, id_back, opacity_back, key_time_back, start_back, start_plain, count_back, property_back, property_field, direction_back, direction_field, fill_back, fill_field, policy_back, policy_field, iterations_field}
use Rattle.script_fields.proofs.PrintBack.{list_back, list_long, list_fields_fit, easing_back, easing_field, numbers_of_timing, ranges_of, timing_back, offset_small, rate_small, start_small, first_ok}
use Rattle.frame_script.specs.declared.cause.Cause.{Cause}
use Rattle.frame_script.specs.declared.cause.Cause.TheVariants.{Edit}
use Rattle.frame_script.specs.declared.model_line.ModelNames.{ModelNames}
use Rattle.frame_script.specs.declared.model_line.ModelLine.{ModelLine}
use Rattle.frame_script.specs.Causes.{demand, allow}
use Rattle.frame_script.specs.Said.{named, ids_said, names_said, span_said, course_said, numbers_said, key_count_said, curve_line_said, model_said, key_of, key_said, is_one, own_opacity, own_list}
use Rattle.frame_script.specs.States.{PropertyKeys, OpacityKeys, TransformKeys, InMain, InModel, ScriptState, at, has_room, main_with, with_main, step_made, no_keys, model_allowed, model_begun, is_next_time, with_key, keys_with, key_count, taken_curve, lasting, model_with, model_through, model_made, after_key, key_made, in_main, at_stage, after_line}
use Rattle.frame_script.specs.Printing.{line, opacity_fields, key_fields, key_line, key_lines, keys_there, curve_easing, end_fields, timing_fields, model_fields, model_lines}
use Rattle.frame_script.proofs.Books.{allowed_is}
use Rattle.frame_script.proofs.Ranges.{done}
use Rattle.frame_script.proofs.Lasting.{demand_is}
use Rattle.script_printer.proofs.Lined.{TextLeads, fields_joined, line_leads, then_leads, not_skipped}

-- ---- the line of a model

abbrev names_of : Spec → ModelNames
names_of model = named model.id model.group model.element model.timeline (property_of_curve model.curve) model.start

-- what the line of a model says
abbrev line_of : Spec → ModelLine
line_of model = record {
  names = names_of model;
  timing = record model.timing { duration = 1 };
  policy = model.policy;
  easing = curve_easing model.curve;
  keys = keys_there model.curve;
}

-- how many keys a curve has, and its easing
record HasKeys (curve : PropertyCurve) : Type 0 where
  fewest : FEWEST_KEYS ≤ keys_there curve
  most : keys_there curve ≤ MOST_KEYS
  easing : IsEasing (curve_easing curve)

refusal_parts : {V : Type 0} (keys : List (Key V)) (few many : Bool) (rest : Option CurveFault) → ltb (length keys) FEWEST_KEYS ≡ few → ltb MOST_KEYS (length keys) ≡ many
    → cond few (Some Rattle.curve_keys.specs.declared.fault.CurveFault.TheVariants.FewKeys) (cond many (Some Rattle.curve_keys.specs.declared.fault.CurveFault.TheVariants.ManyKeys) rest) ≡ None
    → (FEWEST_KEYS ≤ length keys) × (length keys ≤ MOST_KEYS) × (rest ≡ None)
refusal_parts keys true many rest f m h = absurd cc
refusal_parts keys false true rest f m h = absurd cc
refusal_parts keys false false rest f m h = (ltb-false (length keys) FEWEST_KEYS f, ltb-false MOST_KEYS (length keys) m, h)

-- what is known of keys that make a curve
record MakeCurve {V : Type 0} (keys : List (Key V)) : Type 0 where
  fewest : FEWEST_KEYS ≤ length keys
  most : length keys ≤ MOST_KEYS
  rising : is_rising keys ≡ true
  begins : begins_at_zero keys ≡ true

make_curve : {V : Type 0} (keys : List (Key V)) → curve_refusal keys ≡ None → MakeCurve keys
make_curve keys h =
    let p = refusal_parts keys (ltb (length keys) FEWEST_KEYS) (ltb MOST_KEYS (length keys)) _ refl refl h in
    let r = first_ok (is_rising keys) _ _ p.2 in
    let b = first_ok (begins_at_zero keys) _ None r.1 in
    record { fewest = p.0; most = p.1; rising = r.0; begins = b.0 }

has_keys : (curve : PropertyCurve) → IsPropertyCurve curve → HasKeys curve
has_keys (OpacityCurve curve) is = let m = make_curve curve.keys is.taken in record { fewest = m.fewest; most = m.most; easing = is.easing }
has_keys (TransformCurve curve) is = let m = make_curve curve.keys is.taken in record { fewest = m.fewest; most = m.most; easing = is.easing }

names_back : (model : Spec) → IsModel model
    → names_said (decimal model.id) (decimal model.group) (decimal model.element) (decimal model.timeline) (property_text (property_of_curve model.curve)) (start_text model.start) ≡ Ok (names_of model)
unfolding names_said ids_said
names_back model fits =
    rw (
      id_back model.id fits.id,
      id_back model.group fits.group,
      id_back model.element fits.element,
      id_back model.timeline fits.timeline,
      property_back (property_of_curve model.curve),
      start_back model.start fits.start,
    ) refl

numbers_back : (t : TimingParts) → IsTiming t
    → numbers_said (signed_decimal t.offset) (iterations_text t.iterations) (decimal t.iteration_start) (direction_text t.direction) (fill_text t.fill) (signed_decimal t.rate) ≡ Ok (numbers_of_timing t)
unfolding numbers_said span_said course_said
numbers_back t fits =
    rw (
      number_back t.offset (offset_small t fits),
      count_back t.iterations (ranges_of t fits).iterations,
      number_back (pos t.iteration_start) (start_small t fits),
      direction_back t.direction,
      fill_back t.fill,
      number_back t.rate (rate_small t fits),
    ) refl

curve_line_back : (model : Spec) → IsModel model
    → curve_line_said (names_of model) (numbers_of_timing model.timing) (policy_text model.policy) (easing_text (curve_easing model.curve)) (decimal (keys_there model.curve)) ≡ Ok (line_of model)
unfolding curve_line_said key_count_said
curve_line_back model fits =
    let keys = has_keys model.curve fits.curve in
    let few : keys_there model.curve ≤ MOST_KEYS = keys.most in
    let small : keys_there model.curve < 2 ^ 63 = omega arith in
    rw (
      policy_back model.policy,
      easing_back (curve_easing model.curve) keys.easing,
      number_back (pos (keys_there model.curve)) small,
      le-leb FEWEST_KEYS (keys_there model.curve) keys.fewest,
      le-leb (keys_there model.curve) MOST_KEYS keys.most,
      timing_back model.timing fits.timing,
    ) refl

-- the fields behind the line's name
abbrev model_args : Spec → List (List ℕ)
model_args model =
    decimal model.id ∷ decimal model.group ∷ decimal model.element ∷ decimal model.timeline
    ∷ property_text (property_of_curve model.curve) ∷ start_text model.start ∷ timing_fields model.timing (end_fields model.policy model.curve)

model_back : (model : Spec) → IsModel model → model_said (model_args model) ≡ Ok (line_of model)
unfolding model_said
model_back model fits = rw (names_back model fits, numbers_back model.timing fits.timing, curve_line_back model fits) refl

id_field : (id : ℕ) → IsId id → IsField (decimal id)
id_field id fits = let small : id < 2 ^ 64 = omega arith in plain_field (decimal id) (decimal_plain id small)

signed_field : (z : ℤ) → unsigned_abs z < 2 ^ 63 → IsField (signed_decimal z)
signed_field z small = let below : unsigned_abs z < 2 ^ 64 = omega (arith, small) in plain_field (signed_decimal z) (signed_plain z below)

model_fields_fit : (model : Spec) → IsModel model → AllByRecursion IsField (model_fields model)
unfolding are_within
model_fields_fit model fits =
    let keys = has_keys model.curve fits.curve in
    let few : keys_there model.curve ≤ MOST_KEYS = keys.most in
    let small : keys_there model.curve < 2 ^ 64 = omega arith in
    let start = start_small model.timing fits.timing in
    let begin : model.timing.iteration_start < 2 ^ 64 = omega (arith, start) in (
      text_field (codes "model") refl,
      (
        id_field model.id fits.id,
        (
          id_field model.group fits.group,
          (
            id_field model.element fits.element,
            (
              id_field model.timeline fits.timeline,
              (
                property_field (property_of_curve model.curve),
                (
                  plain_field (start_text model.start) (start_plain model.start fits.start),
                  (
                    signed_field model.timing.offset (offset_small model.timing fits.timing),
                    (
                      iterations_field model.timing.iterations (ranges_of model.timing fits.timing).iterations,
                      (
                        plain_field (decimal model.timing.iteration_start) (decimal_plain model.timing.iteration_start begin),
                        (
                          direction_field model.timing.direction,
                          (
                            fill_field model.timing.fill,
                            (
                              signed_field model.timing.rate (rate_small model.timing fits.timing),
                              (
                                policy_field model.policy,
                                (
                                  easing_field (curve_easing model.curve) keys.easing,
                                  (plain_field (decimal (keys_there model.curve)) (decimal_plain (keys_there model.curve) small), tt),
                                ),
                              ),
                            ),
                          ),
                        ),
                      ),
                    ),
                  ),
                ),
              ),
            ),
          ),
        ),
      ),
    )

-- ---- the lines of the keys

-- how a value is printed, and that it is read back
record IsPrinted {V : Type 0} (is_value : V → Type 0) (value_fields : V → List (List ℕ)) (is_long : List (List ℕ) → Bool) (says : List (List ℕ) → Result V Cause) : Type 0 where
  long : (v : V) → is_value v → is_long (value_fields v) ≡ true
  back : (v : V) → is_value v → says (value_fields v) ≡ Ok v
  fit : (v : V) → is_value v → AllByRecursion IsField (value_fields v)

opacity_printed : IsPrinted IsOpacity opacity_fields is_one own_opacity
opacity_printed = record {
  long = λ v fits. refl;
  back = λ v fits. rw (opacity_back v fits) refl;
  fit = λ v fits. let small : v < 2 ^ 64 = omega (arith, fits) in (plain_field (decimal v) (decimal_plain v small), tt);
}

list_printed : IsPrinted IsList list_fields is_list_long own_list
unfolding own_list
list_printed = record { long = list_long; back = λ v fits. rw (list_back v fits) refl; fit = list_fields_fit }

key_back : {V : Type 0} (is_value : V → Type 0) (value_fields : V → List (List ℕ)) (is_long : List (List ℕ) → Bool) (says : List (List ℕ) → Result V Cause) (key : Key V)
    → IsPrinted is_value value_fields is_long says → IsKey is_value key → key_said is_long says (key_fields value_fields key) ≡ Ok key
unfolding key_said key_of
key_back is_value value_fields is_long says key printed fits =
    rw (printed.long key.value fits.value, key_time_back key.time fits.time, easing_back key.easing fits.easing, printed.back key.value fits.value) refl

key_fit : {V : Type 0} (is_value : V → Type 0) (value_fields : V → List (List ℕ)) (is_long : List (List ℕ) → Bool) (says : List (List ℕ) → Result V Cause) (key : Key V)
    → IsPrinted is_value value_fields is_long says → IsKey is_value key → AllByRecursion IsField (key_fields value_fields key)
unfolding are_within
key_fit is_value value_fields is_long says key printed fits =
    let short = fits.time in
    let small : key.time < 2 ^ 64 = omega (arith, short) in
    (text_field (codes "key") refl, (plain_field (decimal key.time) (decimal_plain key.time small), (easing_field key.easing fits.easing, printed.fit key.value fits.value)))

next_from : {V : Type 0} (t : ℕ) (front rest : List (Key V)) (key : Key V) → is_rising_from t (front ++ key ∷ rest) ≡ true → ltb (last_time t front) key.time ≡ true
next_from t [] rest key h = (and_parts (ltb t key.time) (is_rising_from key.time rest) h).0
next_from t (k ∷ front) rest key h = next_from k.time front rest key (and_parts (ltb t k.time) (is_rising_from k.time (front ++ key ∷ rest)) h).1

next_time : {V : Type 0} (front rest : List (Key V)) (key : Key V) → is_rising (front ++ key ∷ rest) ≡ true → begins_at_zero (front ++ key ∷ rest) ≡ true → is_next_time front key.time ≡ true
next_time [] rest key rising begins = begins
next_time (k ∷ front) rest key rising begins = next_from k.time front rest key rising

-- how the keys of a property are kept
record Keeps {V : Type 0} (keep : List (Key V) → PropertyKeys) (is_long : List (List ℕ) → Bool) (says : List (List ℕ) → Result V Cause) : Type 0 where
  further : (keys : List (Key V)) (text : List (List ℕ)) → keys_with (keep keys) text ≡ (key_said is_long says text >>= λ key. with_key keys key >>= λ more. Ok (keep more))
  many : (keys : List (Key V)) → key_count (keep keys) ≡ length keys

keeps_opacity : Keeps OpacityKeys is_one own_opacity
unfolding keys_with
keeps_opacity = record { further = λ keys text. refl; many = λ keys. refl }

keeps_transform : Keeps TransformKeys is_list_long own_list
unfolding keys_with
keeps_transform = record { further = λ keys text. refl; many = λ keys. refl }

key_line_made : {V : Type 0} (keep : List (Key V) → PropertyKeys) (is_value : V → Type 0) (value_fields : V → List (List ℕ)) (is_long : List (List ℕ) → Bool) (says : List (List ℕ) → Result V Cause)
    → (script : ScriptLists) (line : ModelLine) (front : List (Key V)) (key : Key V) (made : Result ScriptState Cause)
    → IsPrinted is_value value_fields is_long says → Keeps keep is_long says → IsKey is_value key → is_next_time front key.time ≡ true
    → after_key script line (keep (front ++ key ∷ [])) ≡ made → key_made script line (keep front) (key_fields value_fields key) ≡ made
unfolding key_made
key_line_made keep is_value value_fields is_long says script line front key made printed keeps fits next after =
    rw (keeps.further front (key_fields value_fields key), key_back is_value value_fields is_long says key printed fits, next) after

one_key_leads : {V : Type 0} (keep : List (Key V) → PropertyKeys) (is_value : V → Type 0) (value_fields : V → List (List ℕ)) (is_long : List (List ℕ) → Bool) (says : List (List ℕ) → Result V Cause)
    → (script : ScriptLists) (model : ModelLine) (front : List (Key V)) (key : Key V) (next : ScriptState)
    → IsPrinted is_value value_fields is_long says → Keeps keep is_long says → IsKey is_value key → is_next_time front key.time ≡ true
    → after_key script model (keep (front ++ key ∷ [])) ≡ Ok next → TextLeads (at (InModel model (keep front)) script) (key_line value_fields key) next
unfolding at_stage
one_key_leads keep is_value value_fields is_long says script model front key next printed keeps fits is_next after =
    let all = key_fit is_value value_fields is_long says key printed fits in
    let rest : List (List ℕ) = decimal key.time ∷ easing_text key.easing ∷ value_fields key.value in
    line_leads (at (InModel model (keep front)) script) next (codes "key") rest all
    (not_skipped (at (InModel model (keep front)) script) (joined (codes "key" ∷ rest)) (Ok next) refl
    (ap (key_made script model (keep front)) (fields_joined (codes "key") rest all)
    ∙ key_line_made keep is_value value_fields is_long says script model front key (Ok next) printed keeps fits is_next after))

not_equal : (a b : ℕ) → a < b → eqb a b ≡ false
not_equal a b lt = elim (eqb_tells a b) [ inl same ↦ absurd (omega (arith, same.1, lt)) | inr other ↦ other.0 ]

-- one key after the other, up to the last one
keys_lead : {V : Type 0} (keep : List (Key V) → PropertyKeys) (is_value : V → Type 0) (value_fields : V → List (List ℕ)) (is_long : List (List ℕ) → Bool) (says : List (List ℕ) → Result V Cause)
    → (script : ScriptLists) (model : ModelLine) (front : List (Key V)) (key : Key V) (rest : List (Key V)) (next : ScriptState)
    → IsPrinted is_value value_fields is_long says → Keeps keep is_long says → AllByRecursion (IsKey is_value) (key ∷ rest)
    → is_rising (front ++ key ∷ rest) ≡ true → begins_at_zero (front ++ key ∷ rest) ≡ true → length (front ++ key ∷ rest) ≡ model.keys
    → model_made script model (keep (front ++ key ∷ rest)) ≡ Ok next
    → TextLeads (at (InModel model (keep front)) script) (flat_map (key_line value_fields) (key ∷ rest)) next
keys_lead keep is_value value_fields is_long says script model front key [] next printed keeps all rising begins many made =
    let full : eqb (key_count (keep (front ++ key ∷ []))) model.keys ≡ true = eq-eqb _ _ (keeps.many (front ++ key ∷ []) ∙ many) in
    let after : after_key script model (keep (front ++ key ∷ [])) ≡ Ok next = rw full made in
    let here = one_key_leads keep is_value value_fields is_long says script model front key next printed keeps all.0 (next_time front [] key rising begins) after in
    subst (λ (text : List ℕ). TextLeads (at (InModel model (keep front)) script) text next) (sym (append-nil (key_line value_fields key))) here
keys_lead {V} keep is_value value_fields is_long says script model front key (other ∷ rest) next printed keeps all rising begins many made =
    let moved : front ++ key ∷ other ∷ rest ≡ (front ++ key ∷ []) ++ other ∷ rest = sym (append_assoc front (key ∷ []) (other ∷ rest)) in
    let count : length (front ++ key ∷ []) < model.keys = omega (arith, sym many, length-append front (key ∷ other ∷ rest), length-append front (key ∷ [])) in
    let unfinished : eqb (key_count (keep (front ++ key ∷ []))) model.keys ≡ false = ap (λ (n : ℕ). eqb n model.keys) (keeps.many (front ++ key ∷ [])) ∙ not_equal _ _ count in
    let between : ScriptState = at (InModel model (keep (front ++ key ∷ []))) script in
    let after : after_key script model (keep (front ++ key ∷ [])) ≡ Ok between = rw unfinished refl in
    let here = one_key_leads keep is_value value_fields is_long says script model front key between printed keeps all.0 (next_time front (other ∷ rest) key rising begins) after in
    let more = keys_lead keep is_value value_fields is_long says script model (front ++ key ∷ []) other rest next printed keeps all.1
    (ap is_rising (sym moved) ∙ rising) (ap begins_at_zero (sym moved) ∙ begins) (ap length (sym moved) ∙ many)
    (ap (λ (ks : List (Key V)). model_made script model (keep ks)) (sym moved) ∙ made) in
    then_leads (at (InModel model (keep front)) script) between next (key_line value_fields key) (flat_map (key_line value_fields) (other ∷ rest)) here more

-- ---- the model is made again

same_timing : (t : TimingParts) (d : ℕ) → t.duration ≡ d → lasting d (record t { duration = 1 }) ≡ t
same_timing t d is = ap (λ (n : ℕ). record t { duration = n }) (sym is)

model_again : (model : Spec) → IsModel model → model_with (line_of model) model.curve ≡ model
model_again model fits = ap (λ (t : TimingParts). record model { timing = t }) (same_timing model.timing (curve_duration model.curve) fits.duration)

-- the model line of a model that may be added may stand, and its last key makes the step
begun : (script : ScriptLists) (model : Spec) (next : ScriptState) → step_made script (EditStep (OnModels (AddModel model))) ≡ Ok next → model_allowed script.main (names_of model) ≡ Ok tt
unfolding step_made main_with model_allowed edit_refusal
begun script model next h =
    let m = bind_ok (demand (has_room script.main) (Edit (Limit Steps)) >>= λ room. allow (option_map Edit (model_refusal (book_of script.main) model.id model.group model.element model.timeline model.start (property_of_curve model.curve))) >>= λ allowed. done (script.main ++ EditStep (OnModels (AddModel model)) ∷ [])) (λ steps. done (at InMain (with_main script steps))) next h in
    let d = bind_ok (demand (has_room script.main) (Edit (Limit Steps))) (λ room. allow (option_map Edit (model_refusal (book_of script.main) model.id model.group model.element model.timeline model.start (property_of_curve model.curve))) >>= λ allowed. done (script.main ++ EditStep (OnModels (AddModel model)) ∷ [])) m.0 m.1 in
    let a = bind_ok (allow (option_map Edit (model_refusal (book_of script.main) model.id model.group model.element model.timeline model.start (property_of_curve model.curve)))) (λ allowed. done (script.main ++ EditStep (OnModels (AddModel model)) ∷ [])) m.0 d.2 in
    rw (demand_is (has_room script.main) (Edit (Limit Steps)) d.1, allowed_is _ a.1) refl

-- all keys of a curve, from none on
curve_leads : {V : Type 0} (keep : List (Key V) → PropertyKeys) (is_value : V → Type 0) (value_fields : V → List (List ℕ)) (is_long : List (List ℕ) → Bool) (says : List (List ℕ) → Result V Cause)
    → (script : ScriptLists) (model : ModelLine) (keys : List (Key V)) (next : ScriptState) → IsPrinted is_value value_fields is_long says → Keeps keep is_long says → AllByRecursion (IsKey is_value) keys
    → MakeCurve keys → length keys ≡ model.keys → model_made script model (keep keys) ≡ Ok next
    → TextLeads (at (InModel model (keep [])) script) (flat_map (key_line value_fields) keys) next
curve_leads keep is_value value_fields is_long says script model [] next printed keeps all make many made = absurd (omega (arith, make.fewest))
curve_leads keep is_value value_fields is_long says script model (key ∷ keys) next printed keeps all make many made =
    keys_lead keep is_value value_fields is_long says script model [] key keys next printed keeps all make.rising make.begins many made

-- the keys of a model make its curve again
opacity_made : (script : ScriptLists) (line : ModelLine) (curve : Keyframes ℕ) (next : ScriptState) → curve_refusal curve.keys ≡ None → line.easing ≡ curve.easing
    → step_made script (EditStep (OnModels (AddModel (model_with line (OpacityCurve curve))))) ≡ Ok next → model_made script line (OpacityKeys curve.keys) ≡ Ok next
unfolding model_made model_through taken_curve
opacity_made script line curve next taken bend made = rw (taken, bend) made

transform_made : (script : ScriptLists) (line : ModelLine) (curve : Keyframes (List TransformOp)) (next : ScriptState) → curve_refusal curve.keys ≡ None → line.easing ≡ curve.easing
    → step_made script (EditStep (OnModels (AddModel (model_with line (TransformCurve curve))))) ≡ Ok next → model_made script line (TransformKeys curve.keys) ≡ Ok next
unfolding model_made model_through taken_curve
transform_made script line curve next taken bend made = rw (taken, bend) made

all_keys_lead : (script : ScriptLists) (line : ModelLine) (curve : PropertyCurve) (next : ScriptState) → IsPropertyCurve curve → keys_there curve ≡ line.keys → line.easing ≡ curve_easing curve
    → step_made script (EditStep (OnModels (AddModel (model_with line curve)))) ≡ Ok next → TextLeads (at (InModel line (no_keys (property_of_curve curve))) script) (key_lines curve) next
all_keys_lead script line (OpacityCurve curve) next is many bend made =
    curve_leads OpacityKeys IsOpacity opacity_fields is_one own_opacity script line curve.keys next opacity_printed keeps_opacity (recursion_from_All (IsKey IsOpacity) curve.keys is.each)
    (make_curve curve.keys is.taken) many (opacity_made script line curve next is.taken bend made)
all_keys_lead script line (TransformCurve curve) next is many bend made =
    curve_leads TransformKeys IsList list_fields is_list_long own_list script line curve.keys next list_printed keeps_transform (recursion_from_All (IsKey IsList) curve.keys is.each)
    (make_curve curve.keys is.taken) many (transform_made script line curve next is.taken bend made)

begun_back : (script : ScriptLists) (line : ModelLine) → model_allowed script.main line.names ≡ Ok tt → model_begun script line ≡ Ok (at (InModel line (no_keys line.names.property)) script)
unfolding model_begun
begun_back script line allowed = rw allowed refl

model_line_said : (script : ScriptLists) (model : Spec) → IsModel model → in_main script (model_fields model) ≡ model_begun script (line_of model)
unfolding in_main
model_line_said script model fits = rw (model_back model fits) refl

pub model_leads : (script : ScriptLists) (next : ScriptState) (model : Spec) → IsModel model → step_made script (EditStep (OnModels (AddModel model))) ≡ Ok next → TextLeads (at InMain script) (model_lines model) next
unfolding model_lines at_stage
model_leads script next model fits made =
    let line : ModelLine = line_of model in
    let between : ScriptState = at (InModel line (no_keys (property_of_curve model.curve))) script in
    let all = model_fields_fit model fits in
    let said : in_main script (model_fields model) ≡ Ok between = model_line_said script model fits ∙ begun_back script line (begun script model next made) in
    let read : after_line (at InMain script) (joined (model_fields model)) ≡ Ok between =
    not_skipped (at InMain script) (joined (model_fields model)) (Ok between) refl (ap (in_main script) (fields_joined (codes "model") (model_args model) all) ∙ said) in
    let again : step_made script (EditStep (OnModels (AddModel (model_with line model.curve)))) ≡ Ok next = ap (λ (m : Spec). step_made script (EditStep (OnModels (AddModel m)))) (model_again model fits) ∙ made in
    then_leads (at InMain script) between next _ (key_lines model.curve)
    (line_leads (at InMain script) between (codes "model") (model_args model) all read)
    (all_keys_lead script line model.curve next fits.curve refl refl again)

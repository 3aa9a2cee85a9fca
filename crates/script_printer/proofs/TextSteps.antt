-- The text of one more of a list, and of a model's line in pieces.
use Rattle.std.proofs.Common.{◌≡◌, ℕ, List, [], ◌∷◌, ◌++◌, map, refl, ap, sym, ◌∙◌, append_assoc}
use Rattle.std.specs.Prelude.{codes}
use Rattle.std.specs.Fmt.{decimal}
use Rattle.std.specs.List.{flat_map}
use Rattle.anim_delegate.specs.declared.policy.Policy.{Policy}
use Rattle.micro_time.specs.Timings.{TimingParts}
use Rattle.keyframe_model.specs.Models.{Spec, PropertyCurve, property_of_curve}
use Rattle.script_fields.specs.Fields.{further_fields, joined}
use Rattle.script_fields.specs.Printed.{property_text, start_text}
use Rattle.frame_script.specs.Printing.{names_fields, timing_fields, end_fields, model_fields, key_lines, model_lines}

pub flat_map-map : {A B : Type 0} (f : B → List ℕ) (g : A → B) (xs : List A) → flat_map f (map g xs) ≡ flat_map (λ x. f (g x)) xs
flat_map-map f g [] = refl
flat_map-map f g (x ∷ xs) = ap (λ (bytes : List ℕ). f (g x) ++ bytes) (flat_map-map f g xs)

pub further_fields-append : (first second : List (List ℕ)) → further_fields (first ++ second) ≡ further_fields first ++ further_fields second
further_fields-append [] second = refl
further_fields-append (field ∷ first) second =
    ap (λ (bytes : List ℕ). (32 ∷ field) ++ bytes) (further_fields-append first second) ∙ sym (append_assoc (32 ∷ field) (further_fields first) (further_fields second))

-- the fields of a model's line behind its name and up to its start
abbrev named_fields : Spec → List (List ℕ)
named_fields m =
    decimal m.id ∷ decimal m.group ∷ decimal m.element ∷ decimal m.timeline ∷ property_text (property_of_curve m.curve) ∷ start_text m.start ∷ []

pieces : (a b c d : List ℕ) → a ++ (b ++ (c ++ d)) ≡ ((a ++ b) ++ c) ++ d
pieces a b c d = sym (append_assoc a b (c ++ d)) ∙ sym (append_assoc (a ++ b) c d)

model_joined : (m : Spec) → joined (model_fields m) ≡ (joined (names_fields m) ++ further_fields (timing_fields m.timing [])) ++ further_fields (end_fields m.policy m.curve)
model_joined m =
    ap (λ (bytes : List ℕ). codes "model" ++ bytes) (
    further_fields-append (named_fields m) (timing_fields m.timing (end_fields m.policy m.curve))
    ∙ ap (λ (bytes : List ℕ). further_fields (named_fields m) ++ bytes) (further_fields-append (timing_fields m.timing []) (end_fields m.policy m.curve))
    )
    ∙ pieces (codes "model") (further_fields (named_fields m)) (further_fields (timing_fields m.timing [])) (further_fields (end_fields m.policy m.curve))

in_order : (a b c d e k : List ℕ) → (((a ++ b) ++ c) ++ (d ++ e)) ++ k ≡ a ++ ((((b ++ c) ++ d) ++ e) ++ k)
in_order a b c d e k = simp append_assoc

-- a model that is written piece by piece
pub model_written : (m : Spec) (timing : TimingParts) (policy : Policy) (curve keys : PropertyCurve) (s0 s1 s2 s3 : List ℕ)
    → timing ≡ m.timing → policy ≡ m.policy → curve ≡ m.curve → keys ≡ m.curve
    → s1 ≡ s0 ++ joined (names_fields m) → s2 ≡ s1 ++ further_fields (timing_fields timing []) → s3 ≡ s2 ++ (further_fields (end_fields policy curve) ++ 10 ∷ [])
    → s3 ++ key_lines keys ≡ s0 ++ model_lines m
unfolding model_lines
model_written m timing policy curve keys s0 s1 s2 s3 t p c k e1 e2 e3 =
    let third : s3 ≡ ((s0 ++ joined (names_fields m)) ++ further_fields (timing_fields m.timing [])) ++ (further_fields (end_fields m.policy m.curve) ++ 10 ∷ []) =
    e3 ∙ (ap (λ (bytes : List ℕ). bytes ++ (further_fields (end_fields policy curve) ++ 10 ∷ [])) (e2 ∙ (ap (λ (bytes : List ℕ). bytes ++ further_fields (timing_fields timing [])) e1
    ∙ ap (λ (u : TimingParts). (s0 ++ joined (names_fields m)) ++ further_fields (timing_fields u [])) t))
    ∙ (ap (λ (q : Policy). ((s0 ++ joined (names_fields m)) ++ further_fields (timing_fields m.timing [])) ++ (further_fields (end_fields q curve) ++ 10 ∷ [])) p
    ∙ ap (λ (v : PropertyCurve). ((s0 ++ joined (names_fields m)) ++ further_fields (timing_fields m.timing [])) ++ (further_fields (end_fields m.policy v) ++ 10 ∷ [])) c)) in
    ap (λ (bytes : List ℕ). bytes ++ key_lines keys) third
    ∙ (ap (λ (v : PropertyCurve). (((s0 ++ joined (names_fields m)) ++ further_fields (timing_fields m.timing [])) ++ (further_fields (end_fields m.policy m.curve) ++ 10 ∷ [])) ++ key_lines v) k
    ∙ (in_order s0 (joined (names_fields m)) (further_fields (timing_fields m.timing [])) (further_fields (end_fields m.policy m.curve)) (10 ∷ []) (key_lines m.curve)
    ∙ ap (λ (bytes : List ℕ). s0 ++ ((bytes ++ 10 ∷ []) ++ key_lines m.curve)) (sym (model_joined m))))

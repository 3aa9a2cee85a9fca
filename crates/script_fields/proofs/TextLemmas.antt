-- The text of one more operation.
use Rattle.std.proofs.Common.{◌≡◌, ℕ, ◌+◌, ◌<◌, List, [], ◌∷◌, ◌++◌, length, map, take, Some, Result, OnOk, sym, ap, ◌∙◌, append_assoc, arith}
use Rattle.std.specs.List.{slice_get, flat_map}
use Rattle.std.proofs.lemmas.List.{append-nil, map-append, take_more, length-take-le, flat_map_more}
use Rattle.std.proofs.lemmas.Option.{slice_get_within, get_or_from_slice_get}
use Rattle.std.proofs.lemmas.Result.{on_ok_weaker}
use Rattle.transform_ops.specs.declared.op.TransformOp.{TransformOp}
use Rattle.script_fields.specs.Fields.{further_fields}
use Rattle.script_fields.specs.Printed.{operation_text, further_text, list_text}

-- a text that is written behind another one, where the second call's answer is handed on
pub on_ok-appended : {T E : Type 0} (result : Result T E) (old between new first second : List ℕ) → between ≡ old ++ first
    → OnOk result (new ≡ between ++ second) → OnOk result (new ≡ old ++ (first ++ second))
on_ok-appended result old between new first second e appended =
    on_ok_weaker result (λ f. f ∙ ap (λ bytes. bytes ++ second) e ∙ append_assoc old first second) appended

-- one element more of a list, at a place where it was read
-- one item more of a list, at an index where it was read
pub take-read : {A : Type 0} (xs : List A) (i : ℕ) (x : A) → slice_get xs i ≡ Some x → take (i + 1) xs ≡ take i xs ++ x ∷ []
take-read xs i x e =
    take_more xs i x (slice_get_within xs i x e) ∙ ap (λ y. take i xs ++ y ∷ []) (get_or_from_slice_get xs i x x e)

-- and the text of that item
pub one_more : {A : Type 0} (f : A → List ℕ) (before : List ℕ) (xs : List A) (i : ℕ) (x : A) → slice_get xs i ≡ Some x
    → (before ++ flat_map f (take i xs)) ++ f x ≡ before ++ flat_map f (take (i + 1) xs)
one_more f before xs i x e = flat_map_more f before (take i xs) x ∙ ap (λ read. before ++ flat_map f read) (sym (take-read xs i x e))

further_fields-push : (fields : List (List ℕ)) (field : List ℕ) → further_fields (fields ++ field ∷ []) ≡ further_fields fields ++ 32 ∷ field
further_fields-push [] field = append-nil (32 ∷ field)
further_fields-push (first ∷ fields) field =
    ap (λ (bytes : List ℕ). (32 ∷ first) ++ bytes) (further_fields-push fields field) ∙ sym (append_assoc (32 ∷ first) (further_fields fields) (32 ∷ field))

list_text-push : (operations : List TransformOp) (operation : TransformOp) → 0 < length operations
    → list_text (operations ++ operation ∷ []) ≡ list_text operations ++ further_text operation
list_text-push [] operation h = absurd (omega arith)
list_text-push (first ∷ operations) operation h =
    ap (λ (fields : List (List ℕ)). operation_text first ++ further_fields fields) (map-append operation_text operations (operation ∷ []))
    ∙ (ap (λ (bytes : List ℕ). operation_text first ++ bytes) (further_fields-push (map operation_text operations) (operation_text operation))
    ∙ sym (append_assoc (operation_text first) (further_fields (map operation_text operations)) (further_text operation)))

pub list_text-more : (operations : List TransformOp) (i : ℕ) (operation : TransformOp) → 0 < i → slice_get operations i ≡ Some operation
    → list_text (take (i + 1) operations) ≡ list_text (take i operations) ++ further_text operation
list_text-more operations i operation some e =
    let within : i < length operations = slice_get_within operations i operation e in
    let taken : length (take i operations) ≡ i = length-take-le i operations (omega arith) in
    ap list_text (take-read operations i operation e) ∙ list_text-push (take i operations) operation (omega arith)

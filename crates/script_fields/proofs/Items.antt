-- Reading one item after the other, as a loop does.
use Rattle.std.proofs.Common.{◌≡◌, ℕ, suc, ◌+◌, ◌<◌, Bool, true, false, cond, List, [], ◌∷◌, ◌++◌, map, length, get_or, drop, drop-cons, add-one, append_assoc, Option, Some, None, Result, Ok, Err, refl, ap, sym, ◌∙◌}
use Rattle.std.specs.Prelude.{ok_or, option_and_then}
use Rattle.transform_ops.specs.declared.op.TransformOp.{TransformOp}
use Rattle.transform_ops.specs.Operations.{is_operation}
use Rattle.script_fields.specs.declared.fault.FieldFault.{FieldFault}
use Rattle.script_fields.specs.declared.fault.FieldFault.TheVariants.{BadForm, BadNumber}
use Rattle.script_fields.specs.Fields.{◌>>=◌, all_read, parts}
use Rattle.script_fields.specs.Lists.{has_form, operation_kept, operation_of_parts, operation_with, operation_read}

-- what was read so far, in front of what is left to read
abbrev pub onto : {A F : Type 0} → List A → Result (List A) F → Result (List A) F
onto front (Ok xs) = Ok (front ++ xs)
onto front (Err fault) = Err fault

one_more : {A F : Type 0} (front : List A) (x : A) (more : Result (List A) F) → onto front (more >>= λ xs. Ok (x ∷ xs)) ≡ onto (front ++ x ∷ []) more
one_more front x (Err fault) = refl
one_more {A} {F} front x (Ok xs) =
    let done : List A → Result (List A) F = λ ys. Ok ys in ap done (sym (append_assoc front (x ∷ []) xs))

pub item_read : {A B C F : Type 0} (reads : B → Result A F) (shown : C → B) (front : List A) (items : List C) (i : ℕ) (d : C) (x : A) (total : Result (List A) F)
    → i < length items → Ok x ≡ reads (shown (get_or items i d)) → onto front (all_read reads (map shown (drop i items))) ≡ total
    → onto (front ++ x ∷ []) (all_read reads (map shown (drop (i + 1) items))) ≡ total
item_read reads shown front items i d x total lt read so_far =
    let here : onto front (all_read reads (map shown (drop i items))) ≡ onto (front ++ x ∷ []) (all_read reads (map shown (drop (suc i) items))) =
    rw (drop-cons items i d lt, ← read) (one_more front x (all_read reads (map shown (drop (suc i) items)))) in
    rw add-one (sym here ∙ so_far)

pub item_refused : {A B C F : Type 0} (reads : B → Result A F) (shown : C → B) (front : List A) (items : List C) (i : ℕ) (d : C) (fault : F) (total : Result (List A) F)
    → i < length items → Err fault ≡ reads (shown (get_or items i d)) → onto front (all_read reads (map shown (drop i items))) ≡ total → Err fault ≡ total
item_refused reads shown front items i d fault total lt read so_far =
    let here : onto front (all_read reads (map shown (drop i items))) ≡ Err fault = rw (drop-cons items i d lt, ← read) refl in
    sym here ∙ so_far

-- ---- operations that are read may be operations

kept_is : (in_range : Bool) (op found : TransformOp) → ok_or (cond in_range (Some op) None) BadNumber ≡ Ok found → (in_range ≡ true) × (op ≡ found)
kept_is true op found h = (refl, cc)
kept_is false op found h = absurd cc

found_in_range : (read : Option TransformOp) (op : TransformOp) → ok_or (option_and_then operation_kept read) BadNumber ≡ Ok op → is_operation op ≡ true
found_in_range None op h = absurd cc
found_in_range (Some found) op h =
    let k = kept_is (is_operation found) found op h in
    ap is_operation (sym k.1) ∙ k.0

formed : (form : Bool) (read : Result TransformOp FieldFault) (op : TransformOp) → cond form read (Err BadForm) ≡ Ok op → read ≡ Ok op
formed true read op h = h
formed false read op h = absurd cc

pub read_in_range : (field : List ℕ) (op : TransformOp) → operation_read field ≡ Ok op → is_operation op ≡ true
unfolding operation_read operation_with
read_in_range field op h =
    found_in_range (operation_of_parts (parts field)) op
    (formed (has_form (parts field)) (ok_or (option_and_then operation_kept (operation_of_parts (parts field))) BadNumber) op h)

-- Rows of models under their ids: what one change does.
use Rattle.std.proofs.Common.{◌≡◌, ◌≢◌, ℕ, zero, suc, [], ◌∷◌, slice_set, ◌+◌, ◌<◌, ◌≤◌, cond, List, length, Option, Some, None, refl, sym, ap, ◌∙◌, nat_eq, arith, inl, inr}
use Rattle.std.specs.Prelude.{option_map, option_and_then, is_some, count_by, OnSome, IfSome, Result, Ok, Err, IsOk, OnOk}
use Rattle.std.proofs.Common.{rules}
use Rattle.std.specs.Map.{lookup}
use Rattle.std.proofs.lemmas.Bool.Decides.{eqb_tells}
use Rattle.std.proofs.lemmas.Option.{none-some}
use Rattle.std.proofs.lemmas.List.Sums.{sum_by-set}
use Rattle.keyframe_effect.specs.declared.model.ModelRow.{ModelRow}
use Rattle.host_tables.specs.Rows.{KeysLead, slot_at}

-- a slot that says another model is another slot
pub apart : (slots : List (Option ModelRow)) (slot other id : ℕ) (o : Option ℕ)
    → option_map (λ row. row.model) (slot_at slots slot) ≡ Some id
    → option_map (λ row. row.model) (slot_at slots other) ≡ o
    → o ≢ Some id
    → slot ≢ other
apart slots slot other id o here there differ = λ same. differ (sym there ∙ ap (λ (p : ℕ). option_map (λ row. row.model) (slot_at slots p)) (sym same) ∙ here)

-- a row in a slot that was free, under an id of its own
pub lead-insert : (slots new : List (Option ModelRow)) (keys more : List (ℕ × ℕ)) (key : ℕ) (row : ModelRow)
    → KeysLead slots keys
    → slot_at slots key ≡ None
    → slot_at new key ≡ Some row
    → ((other : ℕ) → other ≢ key → slot_at new other ≡ slot_at slots other)
    → ((q : ℕ) → lookup (nat_eq q) more ≡ cond (nat_eq row.model q) (Some key) (lookup (nat_eq q) keys))
    → KeysLead new more
lead-insert slots new keys more key row lead vacant here others put = λ q slot found.
    elim (eqb_tells row.model q) [
      | inl t ↦
          let e : Some key ≡ Some slot = sym (rw t.0 at (put q)) ∙ found in
          let m : option_map (λ (r : ModelRow). r.model) (slot_at new key) ≡ Some row.model = ap (option_map (λ (r : ModelRow). r.model)) here in
          cc
      | inr f ↦
          let e : lookup (nat_eq q) keys ≡ Some slot = sym (rw f.0 at (put q)) ∙ found in
          let differ : slot ≢ key = apart slots slot key q None (lead q slot e) (ap (option_map (λ (r : ModelRow). r.model)) vacant) (none-some q) in
          ap (option_map (λ (r : ModelRow). r.model)) (others slot differ) ∙ lead q slot e
    ]

-- the other rows stay where they were
pub others-insert : (slots new : List (Option ModelRow)) (keys more : List (ℕ × ℕ)) (key : ℕ) (row : ModelRow)
    → KeysLead slots keys
    → slot_at slots key ≡ None
    → ((other : ℕ) → other ≢ key → slot_at new other ≡ slot_at slots other)
    → ((q : ℕ) → lookup (nat_eq q) more ≡ cond (nat_eq row.model q) (Some key) (lookup (nat_eq q) keys))
    → (id : ℕ) → id ≢ row.model
    → option_and_then (slot_at new) (lookup (nat_eq id) more) ≡ option_and_then (slot_at slots) (lookup (nat_eq id) keys)
others-insert slots new keys more key row lead vacant others put id other =
    elim (eqb_tells row.model id) [
      | inl t ↦ absurd (other (sym t.1))
      | inr f ↦ ap (option_and_then (slot_at new)) (rw f.0 at (put id)) ∙ same (lookup (nat_eq id) keys) (lead id)
    ]
  where
    same : (o : Option ℕ)
        → ((slot : ℕ) → o ≡ Some slot → option_map (λ row. row.model) (slot_at slots slot) ≡ Some id)
        → option_and_then (slot_at new) o ≡ option_and_then (slot_at slots) o
    same None led = refl
    same (Some slot) led =
        others slot (apart slots slot key id None (led slot refl) (ap (option_map (λ (r : ModelRow). r.model)) vacant) (none-some id))

-- what a call promises at Ok, where it answers Ok
pub from_ok : {T E P : Type 0} (r : Result T E) → IsOk r → OnOk r P → P
from_ok (Ok x) ok h = h
from_ok (Err e) ok h = absurd (search rules)

-- ---- another row in the slot of a row

-- the slot of a row takes another row
pub set-here : (slots : List (Option ModelRow)) (key : ℕ) (row : ModelRow) (id : ℕ)
    → option_map (λ (r : ModelRow). r.model) (slot_at slots key) ≡ Some id
    → slot_at (slice_set slots key (Some row)) key ≡ Some row
set-here [] key row id had = absurd (none-some id had)
set-here (s ∷ slots) zero row id had = refl
set-here (s ∷ slots) (suc key) row id had = set-here slots key row id had

pub lead-set : (slots new : List (Option ModelRow)) (keys : List (ℕ × ℕ)) (key : ℕ) (row : ModelRow)
    → KeysLead slots keys
    → lookup (nat_eq row.model) keys ≡ Some key
    → slot_at new key ≡ Some row
    → ((other : ℕ) → other ≢ key → slot_at new other ≡ slot_at slots other)
    → KeysLead new keys
lead-set slots new keys key row lead found here others = λ q slot there.
    elim (eqb_tells slot key) [
      | inl t ↦
          let m : option_map (λ (r : ModelRow). r.model) (slot_at new key) ≡ Some row.model = ap (option_map (λ (r : ModelRow). r.model)) here in
          let old : option_map (λ (r : ModelRow). r.model) (slot_at slots slot) ≡ Some q = lead q slot there in
          let was : option_map (λ (r : ModelRow). r.model) (slot_at slots key) ≡ Some row.model = lead row.model key found in
          let k = t.1 in
          rw k (m ∙ sym was ∙ rw k at old)
      | inr f ↦ ap (option_map (λ (r : ModelRow). r.model)) (others slot f.1) ∙ lead q slot there
    ]

-- a row of another model is not there
pub apart-set : (slots : List (Option ModelRow)) (keys : List (ℕ × ℕ)) (key model id slot : ℕ)
    → KeysLead slots keys
    → lookup (nat_eq model) keys ≡ Some key
    → id ≢ model
    → lookup (nat_eq id) keys ≡ Some slot
    → slot ≢ key
apart-set slots keys key model id slot lead found other there =
    apart slots slot key id (Some model) (lead id slot there) (lead model key found) (λ same. let e : model ≡ id = cc in other (sym e))

pub others-set : (slots new : List (Option ModelRow)) (keys : List (ℕ × ℕ)) (key model : ℕ)
    → KeysLead slots keys
    → lookup (nat_eq model) keys ≡ Some key
    → ((other : ℕ) → other ≢ key → slot_at new other ≡ slot_at slots other)
    → (id : ℕ) → id ≢ model
    → option_and_then (slot_at new) (lookup (nat_eq id) keys) ≡ option_and_then (slot_at slots) (lookup (nat_eq id) keys)
others-set slots new keys key model lead found others id other =
    same (lookup (nat_eq id) keys) (λ slot there. apart-set slots keys key model id slot lead found other there)
  where
    same : (o : Option ℕ)
        → ((slot : ℕ) → o ≡ Some slot → slot ≢ key)
        → option_and_then (slot_at new) o ≡ option_and_then (slot_at slots) o
    same None led = refl
    same (Some slot) led = others slot (led slot refl)

-- ---- a row is taken out

pub lead-remove : (slots new : List (Option ModelRow)) (keys fewer : List (ℕ × ℕ)) (key model : ℕ)
    → KeysLead slots keys
    → lookup (nat_eq model) keys ≡ Some key
    → ((other : ℕ) → other ≢ key → slot_at new other ≡ slot_at slots other)
    → ((q : ℕ) → lookup (nat_eq q) fewer ≡ cond (nat_eq model q) None (lookup (nat_eq q) keys))
    → KeysLead new fewer
lead-remove slots new keys fewer key model lead found others cut = λ q slot there.
    elim (eqb_tells model q) [
      | inl t ↦ absurd (none-some slot (sym (rw t.0 at (cut q)) ∙ there))
      | inr f ↦
          let e : lookup (nat_eq q) keys ≡ Some slot = sym (rw f.0 at (cut q)) ∙ there in
          ap (option_map (λ (r : ModelRow). r.model))
          (others slot (apart-set slots keys key model q slot lead found (λ same. f.1 (sym same)) e))
          ∙ lead q slot e
    ]

pub others-remove : (slots new : List (Option ModelRow)) (keys fewer : List (ℕ × ℕ)) (key model : ℕ)
    → KeysLead slots keys
    → lookup (nat_eq model) keys ≡ Some key
    → ((other : ℕ) → other ≢ key → slot_at new other ≡ slot_at slots other)
    → ((q : ℕ) → lookup (nat_eq q) fewer ≡ cond (nat_eq model q) None (lookup (nat_eq q) keys))
    → (id : ℕ) → id ≢ model
    → option_and_then (slot_at new) (lookup (nat_eq id) fewer) ≡ option_and_then (slot_at slots) (lookup (nat_eq id) keys)
others-remove slots new keys fewer key model lead found others cut id other =
    elim (eqb_tells model id) [
      | inl t ↦ absurd (other (sym t.1))
      | inr f ↦ ap (option_and_then (slot_at new)) (rw f.0 at (cut id)) ∙ others-set slots new keys key model lead found others id other
    ]

pub room-remove : (o : Option ModelRow) (old fewer capacity room id : ℕ)
    → option_map (λ (r : ModelRow). r.model) o ≡ Some id
    → OnSome o (fewer + 1 ≡ old)
    → old + room ≤ capacity
    → fewer + room ≤ capacity
room-remove None old fewer capacity room id had one fits = absurd (none-some id had)
room-remove (Some row) old fewer capacity room id had one fits = omega arith

within : (slots : List (Option ModelRow)) (key id : ℕ)
    → option_map (λ (r : ModelRow). r.model) (slot_at slots key) ≡ Some id → key < length slots
within [] key id had = absurd (none-some id had)
within (s ∷ slots) zero id had = omega arith
within (s ∷ slots) (suc key) id had = let rest = within slots key id had in omega arith

one : (o : Option ModelRow) (id : ℕ) → option_map (λ (r : ModelRow). r.model) o ≡ Some id → ◌≡◌ {A = ℕ} (cond (is_some o) 1 0) 1
one None id had = absurd (none-some id had)
one (Some row) id had = refl

-- a row in the slot of a row leaves as many
pub count-set : (slots : List (Option ModelRow)) (key : ℕ) (row : ModelRow) (id : ℕ)
    → option_map (λ (r : ModelRow). r.model) (slot_at slots key) ≡ Some id
    → count_by is_some (slice_set slots key (Some row)) ≡ count_by is_some slots
count-set slots key row id had =
    let lt = within slots key id had in
    let was = one (slot_at slots key) id had in
    let sums = sum_by-set (λ (o : Option ModelRow). cond (is_some o) 1 0) slots key (Some row) None lt in
    omega (arith, sums, was)

-- a row stands under its own model's id
pub own-id : (o : Option ModelRow) (id : ℕ) → option_map (λ (r : ModelRow). r.model) o ≡ Some id → IfSome o (λ row. row.model ≡ id)
own-id None id had = tt
own-id (Some row) id had = cc

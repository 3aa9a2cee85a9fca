-- A model whose iterations are over stays so, and gives one value from then on.
use Rattle.std.proofs.Common.{◌≡◌, ℕ, ◌+◌, ◌-◌, ◌*◌, ◌≤◌, Bool, true, false, ◌&&◌, refl, sym, ap, subst, ◌∙◌, arith}
use Rattle.std.specs.Prelude.{ℤ, pos, negsuc, ◌+ℤ◌, unsigned_abs, nat_le, if◌then◌else◌, option_and_then}
use Rattle.std.specs.Int.{is_negative}
use Rattle.std.proofs.lemmas.Bool.{true≢false, false≢true, and_parts, and_from, leb-true, le-leb}
use Rattle.std.proofs.lemmas.Int.{ints}
use Rattle.std.proofs.Math.Dec.{leb-suc-zero}
use Rattle.std.proofs.Math.Nat.{mul-le-mul_right}
use Rattle.micro_time.specs.declared.phase.Phase.{Phase}
use Rattle.micro_time.specs.declared.phase.Phase.TheVariants.{Before, Active, After}
use Rattle.micro_time.specs.Timings.{TimingParts, elapsed, covered, total, is_finite, phase, is_after, is_done, curve_time, curve_time_in}
use Rattle.keyframe_model.specs.Models.{Spec, model_value, value_on}
use Rattle.tree_commit.specs.declared.shown.Shown.{Shown}
use Rattle.tree_commit.specs.Trees.{TreeLists, local_time}

-- ---- a timing

-- the phase, by whether the beginning is yet to come and whether all iterations are covered
abbrev phase_by : Bool → Bool → Phase
phase_by to_come over = if to_come then Before else if over then After else Active

came_after : (to_come over : Bool) → is_after (phase_by to_come over) ≡ true → (to_come ≡ false) × (over ≡ true)
came_after true over is = absurd (false≢true is)
came_after false true is = (refl, refl)
came_after false false is = absurd (false≢true is)

-- a time that is not negative grows as time goes on
grown : (x : ℤ) (more : ℕ) → is_negative x ≡ false → (is_negative (x +ℤ pos more) ≡ false) × (unsigned_abs x ≤ unsigned_abs (x +ℤ pos more))
grown (pos n) more is = (leb-suc-zero (n + more), omega arith)
grown (negsuc n) more is = absurd (true≢false is)

elapsed-later : (t : TimingParts) (local : ℤ) (more : ℕ) → elapsed t (local +ℤ pos more) ≡ elapsed t local +ℤ pos more
elapsed-later t local more = omega (arith, ints)

after-later : (t : TimingParts) (local : ℤ) (more : ℕ) → is_done t local ≡ true → phase t (local +ℤ pos more) ≡ After
unfolding is_done phase
after-later t local more is =
    let parts = came_after (is_negative (elapsed t local)) (is_finite t.iterations && nat_le (total t) (covered t local)) is in
    let over = and_parts (is_finite t.iterations) (nat_le (total t) (covered t local)) parts.1 in
    let more_elapsed = grown (elapsed t local) more parts.0 in
    let later = elapsed-later t local more in
    let started : is_negative (elapsed t (local +ℤ pos more)) ≡ false = ap is_negative later ∙ more_elapsed.0 in
    let covers : covered t local ≤ covered t (local +ℤ pos more) =
    subst (λ x. covered t local ≤ unsigned_abs x * unsigned_abs t.rate) (sym later) (mul-le-mul_right (unsigned_abs t.rate) more_elapsed.1) in
    let reached = leb-true (total t) (covered t local) over.1 in
    let whole = and_from (is_finite t.iterations) (nat_le (total t) (covered t (local +ℤ pos more))) over.0
    (le-leb (total t) (covered t (local +ℤ pos more)) (omega (arith, reached, covers))) in
    λ j. phase_by (started j) (whole j)

after-now : (t : TimingParts) (local : ℤ) → is_done t local ≡ true → phase t local ≡ After
unfolding is_done
after-now t local is = is_it (phase t local) is
  where
    is_it : (p : Phase) → is_after p ≡ true → p ≡ After
    is_it Before wrong = absurd (false≢true wrong)
    is_it Active wrong = absurd (false≢true wrong)
    is_it After right = refl

pub done-later : (t : TimingParts) (local : ℤ) (more : ℕ) → is_done t local ≡ true → is_done t (local +ℤ pos more) ≡ true
unfolding is_done
done-later t local more is = ap is_after (after-later t local more is)

-- one time of the curve, or none, shows from then on
curve_time-later : (t : TimingParts) (local : ℤ) (more : ℕ) → is_done t local ≡ true → curve_time t (local +ℤ pos more) ≡ curve_time t local
unfolding curve_time
curve_time-later t local more is =
    ap (λ p. curve_time_in p t (local +ℤ pos more)) (after-later t local more is)
    ∙ sym (ap (λ p. curve_time_in p t local) (after-now t local is))

-- ---- a model of a tree

local_time-later : (tree : TreeLists) (model : Spec) (shown : Shown) (tick later : ℕ) → tick ≤ later
    → local_time tree later model shown ≡ local_time tree tick model shown +ℤ pos (later - tick)
local_time-later tree model shown tick later after = omega (arith, ints, after)

-- what is over at a tick is over at each later one
pub over-later : (tree : TreeLists) (model : Spec) (shown : Shown) (tick later : ℕ) → tick ≤ later
    → is_done model.timing (local_time tree tick model shown) ≡ true
    → is_done model.timing (local_time tree later model shown) ≡ true
over-later tree model shown tick later after is =
    ap (is_done model.timing) (local_time-later tree model shown tick later after)
    ∙ done-later model.timing (local_time tree tick model shown) (later - tick) is

-- and gives the value of then
pub value-later : (tree : TreeLists) (model : Spec) (shown : Shown) (tick later : ℕ) → tick ≤ later
    → is_done model.timing (local_time tree tick model shown) ≡ true
    → model_value model (local_time tree later model shown) ≡ model_value model (local_time tree tick model shown)
unfolding model_value
value-later tree model shown tick later after is =
    ap (λ local. option_and_then (value_on model.curve) (curve_time model.timing local)) (local_time-later tree model shown tick later after)
    ∙ ap (option_and_then (value_on model.curve)) (curve_time-later model.timing (local_time tree tick model shown) (later - tick) is)

-- Rows as the marks know them, and which rows say that their models were found over: what each change of a row makes of it.
use Rattle.std.proofs.Common.{◌≡◌, ◌≢◌, ◌∙◌, ℕ, Bool, true, false, Option, Some, None, refl, sym, ap, inl, inr}
use Rattle.std.specs.Prelude.{option_map, option_and_then, if◌then◌else◌}
use Rattle.std.proofs.lemmas.Bool.Decides.{eqb_tells}
use Rattle.run_rules.specs.declared.mark.ModelMark.{ModelMark}
use Rattle.run_rules.specs.declared.mark.ModelMark.TheVariants.{Started, Finished, Aborted}
use Rattle.keyframe_effect.specs.declared.state.RunState.{RunState}
use Rattle.keyframe_effect.specs.declared.state.RunState.TheVariants as state
use Rattle.keyframe_effect.specs.States.{after_done, is_ended, is_unfinished, is_waiting}
use Rattle.keyframe_effect.specs.declared.model.ModelRow.{ModelRow}
use Rattle.host_tables.specs.Rows.{advanced_row, done_row, entered, joined, left, marked_row, says_over, state_in}
use Rattle.host_tables.specs.States.{advanced, as_marked, is_found_over, shown_at}

-- ---- one state

pub marked-advanced : (s : RunState) (what : ModelMark) (order : ℕ) → as_marked (advanced s what order) ≡ advanced (as_marked s) what order
marked-advanced state.Waiting (Started begun) order = refl
marked-advanced (state.Running old_start old_order) (Started begun) order = refl
marked-advanced (state.Done old_start old_order) (Started begun) order = refl
marked-advanced (state.Finished old_start old_order) (Started begun) order = refl
marked-advanced state.Aborted (Started begun) order = refl
marked-advanced state.Waiting (Finished at) order = refl
marked-advanced (state.Running old_start old_order) (Finished at) order = refl
marked-advanced (state.Done old_start old_order) (Finished at) order = refl
marked-advanced (state.Finished old_start old_order) (Finished at) order = refl
marked-advanced state.Aborted (Finished at) order = refl
marked-advanced s (Aborted commit) order = refl

marked-done : (s : RunState) → as_marked (after_done s) ≡ as_marked s
marked-done state.Waiting = refl
marked-done (state.Running old_start old_order) = refl
marked-done (state.Done old_start old_order) = refl
marked-done (state.Finished old_start old_order) = refl
marked-done state.Aborted = refl

-- what a state says is what it says as the marks know it
pub marked-runs : (s : RunState) → is_unfinished s ≡ is_unfinished (as_marked s)
marked-runs state.Waiting = refl
marked-runs (state.Running old_start old_order) = refl
marked-runs (state.Done old_start old_order) = refl
marked-runs (state.Finished old_start old_order) = refl
marked-runs state.Aborted = refl

pub marked-waits : (s : RunState) → is_waiting s ≡ is_waiting (as_marked s)
marked-waits state.Waiting = refl
marked-waits (state.Running old_start old_order) = refl
marked-waits (state.Done old_start old_order) = refl
marked-waits (state.Finished old_start old_order) = refl
marked-waits state.Aborted = refl

pub marked-ended : (s : RunState) → is_ended s ≡ is_ended (as_marked s)
marked-ended state.Waiting = refl
marked-ended (state.Running old_start old_order) = refl
marked-ended (state.Done old_start old_order) = refl
marked-ended (state.Finished old_start old_order) = refl
marked-ended state.Aborted = refl

pub marked-shown : (s : RunState) → shown_at s ≡ shown_at (as_marked s)
marked-shown state.Waiting = refl
marked-shown (state.Running old_start old_order) = refl
marked-shown (state.Done old_start old_order) = refl
marked-shown (state.Finished old_start old_order) = refl
marked-shown state.Aborted = refl

-- a model that was found over runs
pub over-runs : (s : RunState) → is_found_over s ≡ true → is_unfinished s ≡ true
over-runs state.Waiting is = cc
over-runs (state.Running old_start old_order) is = refl
over-runs (state.Done old_start old_order) is = refl
over-runs (state.Finished old_start old_order) is = cc
over-runs state.Aborted is = cc

-- what becomes of a model by a mark finds nothing over
over-advanced : (s : RunState) (what : ModelMark) (order : ℕ) → is_found_over (advanced s what order) ≡ true → is_found_over s ≡ true
over-advanced state.Waiting (Started begun) order is = is
over-advanced (state.Running old_start old_order) (Started begun) order is = is
over-advanced (state.Done old_start old_order) (Started begun) order is = refl
over-advanced (state.Finished old_start old_order) (Started begun) order is = is
over-advanced state.Aborted (Started begun) order is = is
over-advanced state.Waiting (Finished at) order is = is
over-advanced (state.Running old_start old_order) (Finished at) order is = is
over-advanced (state.Done old_start old_order) (Finished at) order is = refl
over-advanced (state.Finished old_start old_order) (Finished at) order is = is
over-advanced state.Aborted (Finished at) order is = is
over-advanced s (Aborted commit) order is = cc

-- ---- one row, as the marks know it

pub state-marked : (row : Option ModelRow) → as_marked (state_in row) ≡ state_in (option_map marked_row row)
state-marked None = refl
state-marked (Some row) = refl

pub row-marked-advanced : (row : Option ModelRow) (what : ModelMark) (order : ℕ)
    → option_map marked_row (option_map (advanced_row what order) row) ≡ option_map (advanced_row what order) (option_map marked_row row)
row-marked-advanced None what order = refl
row-marked-advanced (Some row) what order = ap (λ (s : RunState). Some (record row { state = s })) (marked-advanced row.state what order)

pub row-marked-done : (row : Option ModelRow) → option_map marked_row (option_map done_row row) ≡ option_map marked_row row
row-marked-done None = refl
row-marked-done (Some row) = ap (λ (s : RunState). Some (record row { state = s })) (marked-done row.state)

pub row-marked-joined : (id : ℕ) (row : Option ModelRow) → option_map marked_row (Some (joined id row)) ≡ Some (joined id (option_map marked_row row))
row-marked-joined id None = refl
row-marked-joined id (Some row) = refl

pub row-marked-left : (row : Option ModelRow) → option_map marked_row (option_and_then left row) ≡ option_and_then left (option_map marked_row row)
row-marked-left None = refl
row-marked-left (Some row) = by-test row.in_pending
  where
    by-test : (b : Bool) → option_map marked_row (if b then Some (record row { in_active = false }) else None)
        ≡ (if b then Some (record (marked_row row) { in_active = false }) else None)
    by-test true = refl
    by-test false = refl

pub row-marked-entered : (row : Option ModelRow) → option_map marked_row (option_map entered row) ≡ option_map entered (option_map marked_row row)
row-marked-entered None = refl
row-marked-entered (Some row) = refl

-- ---- one row, and whether it says that its model was found over

pub row-over-advanced : (row : Option ModelRow) (what : ModelMark) (order : ℕ) → says_over (option_map (advanced_row what order) row) ≡ true → says_over row ≡ true
row-over-advanced None what order is = is
row-over-advanced (Some row) what order is = over-advanced row.state what order is

pub row-over-joined : (id : ℕ) (row : Option ModelRow) → says_over (Some (joined id row)) ≡ true → says_over row ≡ true
row-over-joined id None is = is
row-over-joined id (Some row) is = is

pub row-over-left : (row : Option ModelRow) → says_over (option_and_then left row) ≡ true → says_over row ≡ true
row-over-left None is = is
row-over-left (Some row) is = by-test row.in_pending is
  where
    by-test : (b : Bool) → says_over (if b then Some (record row { in_active = false }) else None) ≡ true → says_over (Some row) ≡ true
    by-test true is = is
    by-test false is = cc

pub row-over-entered : (row : Option ModelRow) → says_over (option_map entered row) ≡ true → says_over row ≡ true
row-over-entered None is = is
row-over-entered (Some row) is = is

-- a change of one row that finds nothing over
pub over-back : (at new : ℕ → Option ModelRow) (one : ℕ)
    → (says_over (new one) ≡ true → says_over (at one) ≡ true)
    → ((id : ℕ) → id ≢ one → new id ≡ at id)
    → (id : ℕ) → says_over (new id) ≡ true → says_over (at id) ≡ true
over-back at new one here others id is =
    elim (eqb_tells id one) [
      | inl t ↦ ap (λ (n : ℕ). says_over (at n)) t.1 ∙ here (ap (λ (n : ℕ). says_over (new n)) (sym t.1) ∙ is)
      | inr f ↦ ap says_over (sym (others id f.1)) ∙ is
    ]

-- How far each model has come, by the marks; and the rows that there are, by the commits and the marks.
use Rattle.std.specs.Prelude.{◌≡◌, ℕ, ◌==◌, Bool, true, false, List, [], Option, Some, None}
use Rattle.std.specs.List.{list_any}
use Rattle.keyframe_model.specs.Models.{Spec}
use Rattle.run_rules.specs.declared.mark.Mark.{Mark}
use Rattle.run_rules.specs.declared.mark.ModelMark.{ModelMark}
use Rattle.run_rules.specs.declared.mark.ModelMark.TheVariants.{Started, Finished, Aborted}
use Rattle.tree_commit.specs.declared.shown.Shown.{Shown}
use Rattle.tree_commit.specs.Trees.{Committed}
use Rattle.run_rules.specs.Marks.{is_aborted, is_ended, is_started, start_of}
use Rattle.keyframe_effect.specs.declared.model.ModelRow.{ModelRow}
use Rattle.keyframe_effect.specs.States.{after_finish, after_start}
use Rattle.keyframe_effect.specs.declared.state.RunState.{RunState}
use Rattle.keyframe_effect.specs.declared.state.RunState.TheVariants as state

-- ---- how far a model has come

-- by its recorded start, and by whether it ended
abbrev pub run_of : Bool → Option Shown → RunState
run_of ended None = state.Waiting
run_of true (Some shown) = state.Finished shown.start shown.order
run_of false (Some shown) = state.Running shown.start shown.order

-- by whether it was aborted and ended, and by its recorded start
abbrev pub state_from : Bool → Bool → Option Shown → RunState
state_from true ended start = state.Aborted
state_from false ended start = run_of ended start

-- what the marks say
unfoldable pub state_of : List Mark → ℕ → RunState
state_of marks id = state_from (is_aborted marks id) (is_ended marks id) (start_of marks id)

-- Nothing finished that had not started.
abbrev pub FinishesStarted : List Mark → Type 0
FinishesStarted marks =
    (id : ℕ) → is_ended marks id ≡ true → is_aborted marks id ≡ false → is_started marks id ≡ true

-- ---- what one more mark changes

-- the state of a model of which this became in the mark of this index
abbrev pub advanced : RunState → ModelMark → ℕ → RunState
advanced before (Started begun) order = after_start before begun.start order
advanced before (Finished at) order = after_finish before
advanced before (Aborted commit) order = state.Aborted

-- ---- what a state says

-- what is shown of a model in this state
abbrev pub shown_at : RunState → Option Shown
shown_at state.Waiting = None
shown_at (state.Running start order) = Some (record { start = start; order = order })
shown_at (state.Done start order) = Some (record { start = start; order = order })
shown_at (state.Finished start order) = Some (record { start = start; order = order })
shown_at state.Aborted = None

-- ---- what no mark says

-- what the marks say of a model in this state: no mark says that its iterations are over
abbrev pub as_marked : RunState → RunState
as_marked state.Waiting = state.Waiting
as_marked (state.Running start order) = state.Running start order
as_marked (state.Done start order) = state.Running start order
as_marked (state.Finished start order) = state.Finished start order
as_marked state.Aborted = state.Aborted

-- its iterations were found over, and it waits for its group
abbrev pub is_found_over : RunState → Bool
is_found_over state.Waiting = false
is_found_over (state.Running start order) = false
is_found_over (state.Done start order) = true
is_found_over (state.Finished start order) = false
is_found_over state.Aborted = false

-- ---- rows

-- one of the models has this id
abbrev pub is_among : List Spec → ℕ → Bool
is_among models id = list_any (λ model. id == model.id) models

-- the row of a model, by whether it is in either commit
abbrev pub row_if : Bool → Bool → List Mark → ℕ → Option ModelRow
row_if false false marks id = None
row_if true pending marks id = Some (record { model = id; state = state_of marks id; in_active = true; in_pending = pending })
row_if false true marks id = Some (record { model = id; state = state_of marks id; in_active = false; in_pending = true })

-- the row of a model, where these models are in the active commit and those in the pending one
unfoldable pub row_for : List Spec → List Spec → List Mark → ℕ → Option ModelRow
row_for active pending marks id = row_if (is_among active id) (is_among pending id) marks id

-- the models of the pending commit
abbrev pub models_of : Option Committed → List Spec
models_of None = []
models_of (Some commit) = commit.tree.models

-- How far a keyframe model is, and what becomes of it.
use Rattle.std.specs.Prelude.{ℕ, ℤ, Bool, true, false}
use Rattle.keyframe_effect.specs.declared.state.RunState.{RunState}
use Rattle.keyframe_effect.specs.declared.state.RunState.TheVariants.{Waiting, Running, Done, Finished, Aborted}

-- it has neither started nor ended
abbrev pub is_waiting : RunState → Bool
is_waiting Waiting = true
is_waiting (Running start order) = false
is_waiting (Done start order) = false
is_waiting (Finished start order) = false
is_waiting Aborted = false

-- it started, and its own iterations are not known to be over
abbrev pub is_running : RunState → Bool
is_running Waiting = false
is_running (Running start order) = true
is_running (Done start order) = false
is_running (Finished start order) = false
is_running Aborted = false

-- it started and has not ended
abbrev pub is_unfinished : RunState → Bool
is_unfinished Waiting = false
is_unfinished (Running start order) = true
is_unfinished (Done start order) = true
is_unfinished (Finished start order) = false
is_unfinished Aborted = false

-- it finished or was aborted
abbrev pub is_ended : RunState → Bool
is_ended Waiting = false
is_ended (Running start order) = false
is_ended (Done start order) = false
is_ended (Finished start order) = true
is_ended Aborted = true

-- One that waits runs, from this start with this order; any other is what it was.
abbrev pub after_start : RunState → ℤ → ℕ → RunState
after_start Waiting start order = Running start order
after_start (Running begun place) start order = Running begun place
after_start (Done begun place) start order = Done begun place
after_start (Finished begun place) start order = Finished begun place
after_start Aborted start order = Aborted

-- One that runs is done; any other is what it was.
abbrev pub after_done : RunState → RunState
after_done Waiting = Waiting
after_done (Running start order) = Done start order
after_done (Done start order) = Done start order
after_done (Finished start order) = Finished start order
after_done Aborted = Aborted

-- One that runs or is done has finished, with the start that it had; any other is what it was.
abbrev pub after_finish : RunState → RunState
after_finish Waiting = Waiting
after_finish (Running start order) = Finished start order
after_finish (Done start order) = Finished start order
after_finish (Finished start order) = Finished start order
after_finish Aborted = Aborted

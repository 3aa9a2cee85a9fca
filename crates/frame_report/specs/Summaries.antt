-- A report in one line: how much of each kind it has.
use Rattle.std.specs.Prelude.{ℕ, ◌-◌, Bool, true, false, List, [], ◌∷◌, ◌++◌, length, sum_by, count_by, slice_get, unwrap_or, codes}
use Rattle.std.specs.Fmt.{decimal}
use Rattle.anim_names.specs.declared.event.AnimEvent.{AnimEvent}
use Rattle.anim_names.specs.declared.event.AnimEvent.TheVariants.{Started, Finished, Aborted}
use Rattle.run_rules.specs.Frames.{DrawnFrame}
use Rattle.run_rules.specs.Runs.{ReportLists}
use Rattle.frame_report.specs.Texts.{line}

-- the rows of all frames
abbrev pub count_rows : List DrawnFrame → ℕ
count_rows frames = sum_by (λ frame. length frame.rows) frames

abbrev pub is_start : AnimEvent → Bool
is_start (Started model group at start) = true
is_start (Finished model at) = false
is_start (Aborted model commit) = false

abbrev pub is_finish : AnimEvent → Bool
is_finish (Started model group at start) = false
is_finish (Finished model at) = true
is_finish (Aborted model commit) = false

abbrev pub is_abort : AnimEvent → Bool
is_abort (Started model group at start) = false
is_abort (Finished model at) = false
is_abort (Aborted model commit) = true

-- the last of these counts, or 0 where there is none
abbrev pub last_count : List ℕ → ℕ
last_count counts = unwrap_or (slice_get counts (length counts - 1)) 0

-- what the frames hold, what the events tell, and what came of it
abbrev pub shown_fields : ReportLists → List (List ℕ)
shown_fields report =
    codes "frames" ∷ decimal (length report.frames) ∷ codes "rows" ∷ decimal (count_rows report.frames) ∷ []

abbrev pub told_fields : List AnimEvent → List (List ℕ)
told_fields events =
    codes "started" ∷ decimal (count_by is_start events) ∷ codes "finished" ∷ decimal (count_by is_finish events)
    ∷ codes "aborted" ∷ decimal (count_by is_abort events) ∷ []

-- `load NUMBER: frames F rows R started S finished X aborted A heard H bytes B`: how many frames, rows and events of each
-- kind the report has, how many events main had heard in the end, and how many bytes its text has
unfoldable pub summary_text : ℕ → ReportLists → ℕ → List ℕ
summary_text number report bytes =
    line (codes "load" ∷ (decimal number ++ codes ":") ∷ shown_fields report ++ told_fields report.events
    ++ codes "heard" ∷ decimal (last_count report.heard) ∷ codes "bytes" ∷ decimal bytes ∷ [])

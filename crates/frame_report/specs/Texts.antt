-- A report as text: which lines it has, and the fields of each. A field is spelled as in a script.
use Rattle.std.specs.Prelude.{ℕ, List, [], ◌∷◌, ◌++◌, codes}
use Rattle.std.specs.List.{flat_map}
use Rattle.std.specs.Fmt.{decimal, signed_decimal}
use Rattle.anim_names.specs.declared.event.AnimEvent.{AnimEvent}
use Rattle.anim_names.specs.declared.event.AnimEvent.TheVariants.{Started, Finished, Aborted}
use Rattle.script_fields.specs.Fields.{joined}
use Rattle.script_fields.specs.Printed.{word_text, list_fields}
use Rattle.run_rules.specs.Frames.{DrawnRow, DrawnFrame}
use Rattle.run_rules.specs.Runs.{ReportLists}

-- a line of fields: it ends in a line feed
abbrev pub line : List (List ℕ) → List ℕ
line fields = joined fields ++ 10 ∷ []

-- `element ID OPACITY LIST`
abbrev pub row_line : DrawnRow → List ℕ
row_line row = line (codes "element" ∷ decimal row.element ∷ decimal row.look.opacity ∷ list_fields row.look.transform)

-- `frame TIME commit NUMBER`, and a line for each row
abbrev pub frame_lines : DrawnFrame → List ℕ
frame_lines frame =
    line (codes "frame" ∷ decimal frame.time ∷ codes "commit" ∷ decimal frame.commit ∷ []) ++ flat_map row_line frame.rows

-- `started MODEL group GROUP at TIME start START`, `finished MODEL at TIME` or `aborted MODEL commit NUMBER`
abbrev pub event_line : AnimEvent → List ℕ
event_line (Started model group at start) =
    line (codes "started" ∷ decimal model ∷ codes "group" ∷ decimal group ∷ codes "at" ∷ decimal at ∷ codes "start" ∷ signed_decimal start ∷ [])
event_line (Finished model at) = line (codes "finished" ∷ decimal model ∷ codes "at" ∷ decimal at ∷ [])
event_line (Aborted model commit) = line (codes "aborted" ∷ decimal model ∷ codes "commit" ∷ decimal commit ∷ [])

-- `heard COUNT`
abbrev pub heard_line : ℕ → List ℕ
heard_line count = line (codes "heard" ∷ decimal count ∷ [])

-- the version and the word, then all frames, then all events, then all heard counts, and the end
unfoldable pub report_text : ReportLists → List ℕ
report_text report =
    line (codes "report" ∷ codes "1" ∷ []) ++ line (codes "word" ∷ word_text report.word ∷ []) ++ flat_map frame_lines report.frames
    ++ flat_map event_line report.events ++ flat_map heard_line report.heard ++ line (codes "end" ∷ [])

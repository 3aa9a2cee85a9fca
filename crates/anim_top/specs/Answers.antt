-- What the program writes: the text of a report, of a refusal, of a script that is made and of a summary.
use Rattle.std.specs.Prelude.{ℕ, List, [], ◌∷◌, ◌++◌, length, codes}
use Rattle.std.specs.Fmt.{decimal}
use Rattle.anim_names.specs.declared.lane.Lane.{Lane}
use Rattle.anim_names.specs.declared.limit.LimitName.{LimitName}
use Rattle.anim_names.specs.declared.limit.LimitName.TheVariants as limit
use Rattle.frame_report.specs.Summaries.{summary_text}
use Rattle.frame_report.specs.Texts.{line, report_text}
use Rattle.frame_script.specs.declared.cause.Cause.{Cause}
use Rattle.frame_script.specs.declared.cause.Cause.TheVariants as cause
use Rattle.frame_script.specs.Printing.{script_text}
use Rattle.script_gen.specs.Generated.{generated_script}
use Rattle.tree_commit.specs.declared.edits.refusal.EditRefusal.{EditRefusal}
use Rattle.tree_commit.specs.declared.edits.refusal.EditRefusal.TheVariants as refusal
use Rattle.run_rules.specs.Runs.{report_of}
use Rattle.run_rules.specs.Scripts.{ScriptLists}

-- ---- refusals

abbrev pub limit_text : LimitName → List ℕ
limit_text limit.Steps = codes "Limit Steps"
limit_text limit.Commits = codes "Limit Commits"
limit_text limit.Elements = codes "Limit Elements"
limit_text limit.Models = codes "Limit Models"
limit_text limit.Timelines = codes "Limit Timelines"
limit_text limit.Frames = codes "Limit Frames"

abbrev pub edit_text : EditRefusal → List ℕ
edit_text refusal.ElementThere = codes "ElementThere"
edit_text refusal.ElementNotThere = codes "ElementNotThere"
edit_text refusal.ModelIdUsed = codes "ModelIdUsed"
edit_text refusal.ModelUnknown = codes "ModelUnknown"
edit_text refusal.TimelineThere = codes "TimelineThere"
edit_text refusal.TimelineUnknown = codes "TimelineUnknown"
edit_text refusal.GroupClosed = codes "GroupClosed"
edit_text refusal.GroupMixed = codes "GroupMixed"
edit_text (refusal.Limit name) = limit_text name

-- The text of a cause is its name. That of a limit is the word and the name of the limit.
abbrev pub cause_text : Cause → List ℕ
cause_text (cause.Edit refusal) = edit_text refusal
cause_text cause.BadHeader = codes "BadHeader"
cause_text cause.BadLine = codes "BadLine"
cause_text cause.BadNumber = codes "BadNumber"
cause_text cause.BadCurve = codes "BadCurve"
cause_text cause.BadTiming = codes "BadTiming"
cause_text cause.BadEasing = codes "BadEasing"
cause_text cause.TimeBack = codes "TimeBack"
cause_text cause.BadWord = codes "BadWord"
cause_text cause.MissingPart = codes "MissingPart"
cause_text cause.TooLong = codes "TooLong"

abbrev pub refusal_text : ℕ → Cause → List ℕ
refusal_text number cause =
    line ((codes "refused:") ∷ codes "line" ∷ (decimal number ++ codes ":") ∷ cause_text cause ∷ [])

-- ---- reports, scripts and summaries

-- the text of the report of a script, where this word orders its steps
abbrev pub text_of_report : ScriptLists → List Lane → List ℕ
text_of_report script word = report_text (report_of script word)

-- what `gen` writes
abbrev pub generated_text : ℕ → List ℕ
generated_text n = script_text (generated_script n)

-- what `load` writes: the summary of the report, and of how many bytes its text would have
abbrev pub load_text : ℕ → List ℕ
load_text n =
    let script = generated_script n in
    summary_text n (report_of script script.word) (length (text_of_report script script.word))

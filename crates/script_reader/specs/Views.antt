-- What the code keeps between two lines, as a state.
use Rattle.std.specs.Prelude.{Option, None, Some}
use Rattle.script_reader.specs.declared.draft.Draft.{Draft}
use Rattle.script_reader.specs.declared.draft.DraftKeys.{DraftKeys}
use Rattle.script_reader.specs.declared.draft.DraftKeys.TheVariants as draft
use Rattle.script_reader.specs.declared.reader.ReaderStage.{ReaderStage}
use Rattle.script_reader.specs.declared.reader.ReaderStage.TheVariants as variant
use Rattle.script_reader.specs.declared.reader.Reader.{Reader}
use Rattle.frame_script.specs.States.{PropertyKeys, OpacityKeys, TransformKeys, Stage, AtHeader, AtMain, InMain, InModel, InCompositor, AtEnd, Ended, ScriptState}

abbrev pub keys_of : DraftKeys → PropertyKeys
keys_of (draft.Opacity keys) = OpacityKeys keys
keys_of (draft.Transform keys) = TransformKeys keys

abbrev pub stage_of : ReaderStage → Stage
stage_of variant.Header = AtHeader
stage_of variant.MainPart = AtMain
stage_of variant.MainLines = InMain
stage_of variant.CompositorLines = InCompositor
stage_of variant.End = AtEnd
stage_of variant.Nothing = Ended

-- a model whose keys are not all there goes before
abbrev pub stage_with : ReaderStage → Option Draft → Stage
stage_with stage None = stage_of stage
stage_with stage (Some d) = InModel d.line (keys_of d.keys)

abbrev pub state_of : Reader → ScriptState
state_of reader = record {
  stage = stage_with reader.stage reader.draft;
  script = record { version = reader.version; main = reader.main; compositor = reader.compositor; word = reader.word.items };
}

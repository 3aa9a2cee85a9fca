-- A script by its parts.
use Rattle.std.specs.Prelude.{List}
use Rattle.anim_names.specs.declared.lane.Lane.{Lane}
use Rattle.anim_names.specs.declared.version.Version.{Version}
use Rattle.run_rules.specs.declared.compositor_step.CompositorStep.{CompositorStep}
use Rattle.run_rules.specs.Scripts.{StepOfMain, ScriptLists}

abbrev pub script_parts : Version → List StepOfMain → List CompositorStep → List Lane → ScriptLists
script_parts version main compositor word = record { version = version; main = main; compositor = compositor; word = word }

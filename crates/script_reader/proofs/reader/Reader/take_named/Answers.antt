use Rattle.std.proofs.Common.{map, sym, subst}
use Rattle.script_lines.specs.LineFaults.{Gives}
use Rattle.script_reader.specs.Views.{state_of}
use Rattle.script_reader.proofs.Steps.{model_is_read, step_is_read}
use Rattle.script_reader.proofs.reader.Reader.take_named.Goals as goal

pub returns-then-is : goal.returns-then-is
returns-then-is c =
    subst (Gives (λ (x : Unit {0}). state_of c.begin_model.new.self) c.begin_model.result)
    (sym (model_is_read (state_of c.args.self.now).script c.args.name.now (map (λ field. field.now) c.args.fields.now) (sym c.if-is.ensures)))
    c.begin_model.ensures

pub returns-else-is : goal.returns-else-is
returns-else-is c =
    subst (Gives (λ (x : Unit {0}). state_of c.take_step.new.self) c.take_step.result)
    (sym (step_is_read (state_of c.args.self.now).script c.args.name.now (map (λ field. field.now) c.args.fields.now) (sym c.if-is.ensures)))
    c.take_step.ensures

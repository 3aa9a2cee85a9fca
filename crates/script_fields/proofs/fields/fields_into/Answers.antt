use Rattle.std.proofs.Common.{◌==◌, rules}
use Rattle.script_fields.proofs.Parts.{all_parts}
use Rattle.script_fields.proofs.fields.fields_into.Goals as goal

pub returns : goal.returns
returns c =
    let ran = c.extend.ensures.ran in
    all_parts _ _ (λ b. b == 32) c.args.line.now c.split.result c.clear.new.self.items c.extend.new.self.items c.extend.result
    (ran.0, ran.1, ran.2, ran.3.0, ran.4) c.clear.ensures.items c.split.ensures.rest c.split.ensures.done c.split.ensures.closure (λ x b q h. search rules)

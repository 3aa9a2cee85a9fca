use Rattle.std.proofs.Common.{◌≡◌, ◌==◌, map, subst, OnOk, rules}
use Rattle.script_fields.specs.Fields.{parts}
use Rattle.script_fields.proofs.Parts.{all_parts, more_parts}
use Rattle.script_fields.proofs.fields.parts_of.Goals as goal

pub returns-in-Ok : goal.returns-in-Ok
returns-in-Ok c =
    let all = all_parts _ _ (λ b. b == 58) c.args.field.now c.split.result c.new-found.result.items c.extend.new.self.items c.extend.result
    c.extend.ensures.ran c.new-found.ensures c.split.ensures.rest c.split.ensures.done c.split.ensures.closure (λ x b q h. search rules) in
    subst (λ r. OnOk r (map (λ part. part.now) c.extend.new.self.items ≡ parts c.args.field.now)) c.in-Ok.is all

pub returns-in-Err : goal.returns-in-Err
returns-in-Err c =
    more_parts _ _ (λ b. b == 58) c.args.field.now c.split.result c.new-found.result.items c.extend.new.self.items _
    c.in-Err.ensures.one_more c.in-Err.ensures.full c.new-found.ensures c.split.ensures.rest c.split.ensures.done c.split.ensures.closure (λ x b q h. search rules)

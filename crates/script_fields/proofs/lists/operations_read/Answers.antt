use Rattle.std.proofs.Common.{◌≡◌, true, sym, ◌∙◌, arith}
use Rattle.std.proofs.lemmas.Grind.{common_steps}
use Rattle.transform_ops.specs.Operations.{is_operation}
use Rattle.script_fields.specs.Lists.{operation_read}
use Rattle.script_fields.proofs.Items.{item_read, item_refused, read_in_range}
use Rattle.script_fields.proofs.lists.operations_read.Goals as goal

pub returns-in-Err-clause-read : goal.returns-in-Err-clause-read
returns-in-Err-clause-read c =
    item_refused operation_read (λ field. field.now) c.loop-field.ops.items c.args.fields.now c.loop-field.field-index _ c.in-Err.fault _
    c.loop-field-test.true (sym c.in-Err.is ∙ c.operation_read.ensures) c.loop-field.invariant.so_far

pub loop-field-preserved : goal.loop-field-preserved
loop-field-preserved c =
    let read = sym c.in-Ok.is ∙ c.operation_read.ensures in
    let fits : is_operation c.in-Ok.op ≡ true = read_in_range _ c.in-Ok.op (sym read) in
    record {
      so_far = rw c.in_ok-push-in-Ok.ensures.items (
          item_read operation_read (λ field. field.now) c.loop-field.ops.items c.args.fields.now c.loop-field.field-index _ c.in-Ok.op _
          c.loop-field-test.true read c.loop-field.invariant.so_far
          );
      many = grind (arith, common_steps);
      in_range = grind (arith, common_steps, fits);
    }

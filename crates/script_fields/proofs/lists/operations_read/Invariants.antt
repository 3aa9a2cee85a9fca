use Rattle.std.proofs.Common.{◌≡◌, true, map, length, drop}
use Rattle.std.specs.List.{list_all}
use Rattle.transform_ops.specs.Operations.{is_operation}
use Rattle.script_fields.specs.Fields.{all_read}
use Rattle.script_fields.specs.Lists.{operation_read}
use Rattle.script_fields.proofs.Items.{onto}
use Rattle.script_fields.proofs.lists.operations_read.Given as goal

abbrev pub invariant-loop-field : goal.invariant-loop-field
invariant-loop-field l = record {
  so_far : onto l.ops.items (all_read operation_read (map (λ field. field.now) (drop l.field-index l.fields)))
      ≡ all_read operation_read (map (λ field. field.now) l.fields);
  many : length l.ops.items ≡ l.field-index;
  in_range : list_all is_operation l.ops.items ≡ true;
}

use Rattle.std.proofs.Common.{◌≡◌, ◌++◌, map, take}
use Rattle.transform_ops.specs.Operations.{neutral_of, blend_operations}
use Rattle.transform_ops.proofs.list.push_from_neutral.Given as goal

abbrev pub invariant-loop-b : goal.invariant-loop-b
invariant-loop-b l =
    l.ops.items ≡ l.initial.ops.items ++ map (λ b. blend_operations (neutral_of b) b l.fn.progress) (take l.b-index l.to)

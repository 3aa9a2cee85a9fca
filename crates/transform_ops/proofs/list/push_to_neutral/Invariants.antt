use Rattle.std.proofs.Common.{◌≡◌, ◌++◌, map, take}
use Rattle.transform_ops.specs.Operations.{neutral_of, blend_operations}
use Rattle.transform_ops.proofs.list.push_to_neutral.Given as goal

abbrev pub invariant-loop-a : goal.invariant-loop-a
invariant-loop-a l =
    l.ops.items ≡ l.initial.ops.items ++ map (λ a. blend_operations a (neutral_of a) l.fn.progress) (take l.a-index l.from)

use Rattle.std.proofs.Common.{◌≡◌, ℕ, ◌<◌, Some}
use Rattle.std.specs.List.{slice_get}
use Rattle.keyframe_model.specs.Models.{Spec}
use Rattle.run_rules.specs.Follows.{AgreeAsGroup}
use Rattle.host_tests.proofs.steps.expect_mates.Given as goal

abbrev pub invariant-loop-j : goal.invariant-loop-j
invariant-loop-j g l =
    (k : ℕ) (mate : Spec) → k < l.j → slice_get l.commit.tree.models k ≡ Some mate → l.model.group ≡ mate.group
    → AgreeAsGroup l.model mate

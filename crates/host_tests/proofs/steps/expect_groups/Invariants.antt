use Rattle.std.proofs.Common.{◌≡◌, ℕ, ◌<◌, Some}
use Rattle.std.specs.List.{slice_get}
use Rattle.keyframe_model.specs.Models.{Spec}
use Rattle.run_rules.specs.Follows.{AgreeAsGroup}
use Rattle.host_tests.proofs.steps.expect_groups.Given as goal

abbrev pub invariant-loop-i : goal.invariant-loop-i
invariant-loop-i g l =
    (n : ℕ) (model : Spec) → n < l.i → slice_get l.commit.tree.models n ≡ Some model
    → (k : ℕ) (mate : Spec) → slice_get l.commit.tree.models k ≡ Some mate → model.group ≡ mate.group → AgreeAsGroup model mate

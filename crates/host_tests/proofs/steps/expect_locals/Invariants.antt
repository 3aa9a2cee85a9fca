use Rattle.std.proofs.Common.{◌≡◌, ℕ, ◌<◌, ◌≤◌, Some}
use Rattle.std.specs.Prelude.{IfSome, unsigned_abs}
use Rattle.std.specs.List.{slice_get}
use Rattle.keyframe_model.specs.Models.{Spec}
use Rattle.anim_host.specs.Hosting.{shown_in}
use Rattle.micro_time.specs.declared.TheConstants.{LARGEST_LOCAL}
use Rattle.tree_commit.specs.Trees.{local_time}
use Rattle.host_tests.proofs.steps.expect_locals.Given as goal

abbrev pub invariant-loop-i : goal.invariant-loop-i
invariant-loop-i g l =
    (n : ℕ) (model : Spec) → n < l.i → slice_get l.commit.tree.models n ≡ Some model
    → IfSome (shown_in l.host model.id) (λ s. unsigned_abs (local_time l.commit.tree l.time model s) ≤ LARGEST_LOCAL)

-- How the parts of the compositor's side go together.
use Rattle.std.specs.Prelude.{◌≡◌, Option, None, IfSome}
use Rattle.anim_host.specs.Hosting.{Hosting}
use Rattle.tree_commit.specs.Trees.{Committed}

-- The trees hold the commits that the host has. Where a commit is pulled, none is pending.
pub record IsOneSide (host : Hosting) (active : Committed) (pending pulled : Option Committed) : Type 0 where
  pub of_active : active ≡ host.active
  pub of_pending : pending ≡ host.pending
  pub one_waits : IfSome pulled (λ commit. host.pending ≡ None)

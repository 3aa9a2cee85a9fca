-- What a contract sees of a sink over memory that never fails.
use Rattle.std.specs.Prelude.{ℕ, List, Bool, Option, Some, None, if◌then◌else◌}

pub record SteadyState : Type 0 where
  -- the bytes of the pieces that fitted
  pub kept : List ℕ
  -- the most bytes that are kept
  pub room : ℕ
  -- whether each piece fitted
  pub is_whole : Bool

-- the bytes that were taken, as long as none was dropped
abbrev pub told : SteadyState → Option (List ℕ)
told s = if s.is_whole then Some s.kept else None

-- What a contract sees of a sink over a writer.
use Rattle.std.specs.Prelude.{ℕ, List, Bool, true, false, Option, Some, None, IfSome, IsSome}

pub record WriterState : Type 0 where
  -- the bytes that the writer holds, where the sink tells them
  pub taken : Option (List ℕ)
  pub faults : ℕ

-- what a writer told its bytes to be at first, and now, unless some were lost
abbrev pub told : Bool → Option (List ℕ) → Option (List ℕ) → Option (List ℕ)
told true first now = None
told false None now = None
told false (Some bytes) now = now

-- a writer that told its bytes at first tells them still
abbrev pub TellsSince : Option (List ℕ) → Option (List ℕ) → Type 0
TellsSince first now = IfSome first (λ _. IsSome now)

-- What a contract sees of a source over a reader.
use Rattle.std.specs.Prelude.{ℕ, List, Option}

pub record ReaderState : Type 0 where
  -- the bytes that are left, where the reader tells them
  pub left : Option (List ℕ)
  pub faults : ℕ

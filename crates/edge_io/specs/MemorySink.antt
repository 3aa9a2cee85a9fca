-- What a contract sees of a sink over memory.
use Rattle.std.specs.Prelude.{ℕ, ◌^◌, List}

-- how many bytes a sink over memory has room for
abbrev pub room : ℕ
room = 2 ^ 20

pub record SinkState : Type 0 where
  -- the bytes that were taken
  pub taken : List ℕ
  -- the most bytes that a call takes
  pub most : ℕ
  -- the numbers of the calls that fail
  pub failing : List ℕ
  -- the number of the next call
  pub call : ℕ
  pub faults : ℕ

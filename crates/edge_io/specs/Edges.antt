-- What a source gives, what a sink takes, and when a count of faults rose.
use Rattle.std.specs.Prelude.{◌≡◌, ℕ, ◌+◌, ◌<◌, ◌≤◌, min, List, ◌++◌, Option, Some, None, ◌⊎◌}

-- the last value of a count of faults, which no run reaches
abbrev pub last_count : ℕ
last_count = 18446744073709551615

-- one more, or the last value again
abbrev pub next_count : ℕ → ℕ
next_count n = min (n + 1) last_count

-- The count of faults rose from old to new. At its last value a count can't rise any more, and is taken to.
abbrev pub HasRisen : ℕ → ℕ → Type 0
HasRisen old new = (old < new) ⊎ (last_count ≤ new)

-- These bytes were the next ones left, and are left no longer. A source that tells its bytes tells them ever after.
abbrev pub Gave : Option (List ℕ) → Option (List ℕ) → List ℕ → Type 0
Gave None new bytes = Unit {0}
Gave (Some old) (Some new) bytes = old ≡ bytes ++ new
Gave (Some old) None bytes = ⊥

-- These bytes were taken after those before. A sink that tells its bytes told them ever before.
abbrev pub Took : Option (List ℕ) → Option (List ℕ) → List ℕ → Type 0
Took old None bytes = Unit {0}
Took (Some old) (Some new) bytes = new ≡ old ++ bytes
Took None (Some new) bytes = ⊥

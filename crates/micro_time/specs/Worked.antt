-- The timings of the worked rows. The curve of each is a second long.
use Rattle.std.specs.Prelude.{pos, negsuc}
use Rattle.micro_time.specs.Timings.{TimingParts, timing_parts}
use Rattle.micro_time.specs.declared.direction.Direction.{Direction}
use Rattle.micro_time.specs.declared.direction.Direction.TheVariants.{Normal, AlternateReverse}
use Rattle.micro_time.specs.declared.fill.Fill.TheVariants.{Forwards, Both}
use Rattle.micro_time.specs.declared.iterations.Iterations.TheVariants.{Finite, Infinite}

-- two and a half iterations to and fro, backwards first
abbrev pub two_and_a_half : TimingParts
two_and_a_half = timing_parts 1000000 (pos 0) (Finite 2500) 0 AlternateReverse Both (pos 1000)

-- no iterations
abbrev pub none_at_all : Direction → TimingParts
none_at_all direction = timing_parts 1000000 (pos 0) (Finite 0) 0 direction Forwards (pos 1000)

-- one iteration at the rate -1
abbrev pub reversed : TimingParts
reversed = timing_parts 1000000 (pos 0) (Finite 1000) 0 Normal Forwards (negsuc 999)

-- the same from the middle of the first iteration to the middle of the next one, at the rate -1
abbrev pub reversed_from_half : TimingParts
reversed_from_half = timing_parts 1000000 (pos 0) (Finite 1000) 500 Normal Forwards (negsuc 999)

-- infinite iterations at the rate -1, which make no timing
abbrev pub reversed_forever : TimingParts
reversed_forever = timing_parts 1000000 (pos 0) Infinite 0 Normal Forwards (negsuc 999)

-- the rate 0, which makes no timing
abbrev pub standing : TimingParts
standing = timing_parts 1000000 (pos 0) (Finite 1000) 0 Normal Forwards (pos 0)

-- The numbers of a script's fields: ids, values and times, and the numbers of which a timing is made.
use Rattle.std.specs.Prelude.{ℕ, ◌^◌, ◌-◌, ℤ, pos, negsuc, nat_le, List, Option, Some, None, option_and_then, option_map, if◌then◌else◌, codes}
use Rattle.std.specs.Str.{bytes_eq}
use Rattle.anim_timeline.specs.declared.TheConstants.{LAST_TIME}
use Rattle.micro_time.specs.declared.TheConstants.{LONGEST_DURATION}
use Rattle.micro_time.specs.declared.direction.Direction.{Direction}
use Rattle.micro_time.specs.declared.fill.Fill.{Fill}
use Rattle.micro_time.specs.declared.iterations.Iterations.{Iterations}
use Rattle.micro_time.specs.declared.iterations.Iterations.TheVariants as iterations
use Rattle.micro_time.specs.Timings.{TimingParts, timing_parts, refusal}
use Rattle.value_blend.specs.Blends.{opacity_of}
use Rattle.script_fields.specs.declared.values.Count.{Count}
use Rattle.script_fields.specs.declared.values.Count.TheVariants.{Endless, Counted}
use Rattle.script_fields.specs.declared.values.TimingNumbers.{TimingNumbers}
use Rattle.script_fields.specs.Fields.{unless}
use Rattle.script_fields.specs.Numbers.{natural_within, integer_kept, number_said}

-- an id
unfoldable pub id_said : List ℕ → Option ℕ
id_said field = natural_within 0 (2 ^ 32 - 1) field

-- an opacity, in millionths
unfoldable pub opacity_said : List ℕ → Option ℕ
opacity_said field = option_and_then opacity_of (number_said field)

-- the time of a tick, or of a timeline's zero
unfoldable pub time_said : List ℕ → Option ℕ
time_said field = natural_within 0 LAST_TIME field

-- the time of a key
unfoldable pub key_time_said : List ℕ → Option ℕ
key_time_said field = natural_within 0 LONGEST_DURATION field

-- a given start, or a dash for none
unfoldable pub start_said : List ℕ → Option (Option ℕ)
start_said field = if bytes_eq field (codes "-") then Some None else option_map Some (time_said field)

-- how often a curve is run through: without end, or a number
unfoldable pub count_said : List ℕ → Option Count
count_said field = if bytes_eq field (codes "infinite") then Some Endless else option_map Counted (number_said field)

-- ---- the timing that numbers make

-- the number, where it is none below 0
abbrev pub natural_of_number : ℤ → Option ℕ
natural_of_number (pos n) = if nat_le n (2 ^ 32 - 1) then Some n else None
natural_of_number (negsuc n) = None

abbrev pub iterations_of : Count → Option Iterations
iterations_of Endless = Some iterations.Infinite
iterations_of (Counted number) = option_map iterations.Finite (natural_of_number number)

abbrev pub rate_of : ℤ → Option ℤ
rate_of number = integer_kept (negsuc (2 ^ 31 - 1)) (pos (2 ^ 31 - 1)) number

-- the timing of these parts, of a curve of duration 1
unfoldable pub timing_with : ℤ → Iterations → ℕ → Direction → Fill → ℤ → Option TimingParts
timing_with offset iterations start direction fill rate =
    unless (refusal (timing_parts 1 offset iterations start direction fill rate))
    (timing_parts 1 offset iterations start direction fill rate)

-- the timing of these numbers, where they are in range
unfoldable pub timing_of : TimingNumbers → Option TimingParts
timing_of numbers =
    option_and_then (λ iterations. option_and_then (λ start. option_and_then (λ rate.
    timing_with numbers.offset iterations start numbers.direction numbers.fill rate)
    (rate_of numbers.rate)) (natural_of_number numbers.iteration_start)) (iterations_of numbers.iterations)

-- The number that a process ends with.
use Rattle.std.specs.Prelude.{ℕ}
use Rattle.anim_top.specs.declared.status.Status.{Status}
use Rattle.anim_top.specs.declared.status.Status.TheVariants.{Done, Usage, Refused, ReadFault, WriteFault, NoMemory}

abbrev pub number_of : Status → ℕ
number_of Done = 0
number_of Usage = 2
number_of (Refused line cause) = 3
number_of ReadFault = 4
number_of WriteFault = 5
number_of NoMemory = 6

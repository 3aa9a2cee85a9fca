-- Which arguments are a command.
use Rattle.std.specs.Prelude.{ℕ, ◌≤◌, if◌then◌else◌, List, [], ◌∷◌, Option, Some, None, option_map, codes}
use Rattle.std.specs.Str.{bytes_eq}
use Rattle.script_fields.specs.Numbers.{natural_within}
use Rattle.script_gen.specs.declared.TheConstants.{MOST_GENERATED}
use Rattle.anim_top.specs.declared.arguments.Command.{Command}
use Rattle.anim_top.specs.declared.arguments.Command.TheVariants.{Run, Replay, Gen, Load}

-- the number of elements of a script that is made, where the argument is one: decimal, without a sign or a leading zero
abbrev pub number_of_elements : List ℕ → Option ℕ
number_of_elements argument = natural_within 1 MOST_GENERATED argument

-- a command with a number
abbrev pub with_number : List ℕ → List ℕ → Option Command
with_number name number =
    if bytes_eq name (codes "gen") then option_map Gen (number_of_elements number) else
    if bytes_eq name (codes "load") then option_map Load (number_of_elements number) else
    None

-- a command that has no number
abbrev pub by_name : List ℕ → Option Command
by_name name =
    if bytes_eq name (codes "run") then Some Run else
    if bytes_eq name (codes "replay") then Some Replay else
    None

-- The arguments are the command `run`, `replay`, `gen N` or `load N`, with N from 1 to 200, and with nothing else.
abbrev pub command_of : List (List ℕ) → Option Command
command_of [] = None
command_of (name ∷ []) = by_name name
command_of (name ∷ number ∷ []) = with_number name number
command_of (name ∷ number ∷ other ∷ more) = None

-- The commands that are done on one thread: all but `run`.
abbrev pub plain : Option Command → Option Command
plain None = None
plain (Some Run) = None
plain (Some Replay) = Some Replay
plain (Some (Gen n)) = Some (Gen n)
plain (Some (Load n)) = Some (Load n)

-- a number of a command is one that a script may be made from
abbrev pub IsCommand : Command → Type 0
IsCommand Run = Unit {0}
IsCommand Replay = Unit {0}
IsCommand (Gen n) = (1 ≤ n) × (n ≤ MOST_GENERATED)
IsCommand (Load n) = (1 ≤ n) × (n ≤ MOST_GENERATED)

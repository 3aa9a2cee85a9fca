-- When the word of a journal is a word of the lanes' steps.
use Rattle.std.specs.Prelude.{ℕ, ◌≤◌, List}
use Rattle.std.specs.List.{AllByRecursion}
use Rattle.anim_names.specs.declared.entry.Entry.{Entry}
use Rattle.anim_names.specs.declared.lane.Lane.{Lane}
use Rattle.anim_names.specs.declared.lane.Lane.TheVariants.{Main, Compositor}

-- how many steps the lane has, of two lanes of these numbers of steps
abbrev pub steps_of : Lane → ℕ → ℕ → ℕ
steps_of Main main compositor = main
steps_of Compositor main compositor = compositor

-- no entry is of a step that its lane has not
abbrev pub AreWithinSteps : ℕ → ℕ → List Entry → Type 0
AreWithinSteps main compositor entries =
    AllByRecursion (λ entry. entry.upto ≤ steps_of entry.lane main compositor) entries

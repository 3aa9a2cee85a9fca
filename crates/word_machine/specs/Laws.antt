-- What every run of a script keeps, in one list.
use Rattle.std.specs.Prelude.{List, [], ◌∷◌, ◌++◌}
use Rattle.anim_names.specs.Lists.{BeginsWith}
use Rattle.anim_names.specs.declared.lane.Lane.{Lane}
use Rattle.run_rules.specs.Scripts.{ScriptLists}
use Rattle.run_rules.specs.Runs.{Lanes, report_of}
use Rattle.run_laws.specs.Ends.{AbortedWasActive, EndsOnce}
use Rattle.run_laws.specs.Groups.{FinishesTogether, OneBlocker, StartsTogether, TargetsPresent}
use Rattle.run_laws.specs.Hearing.{CountsAddUp, HeardOnce}
use Rattle.run_laws.specs.Shown.{AllShowActivated, CommitNumbersNeverFall, SkippedIsSilent, lanes_at}

-- The law is true of each step of the word, over the state before the step.
abbrev pub AtEachStep : (Lanes → Lane → Type 0) → ScriptLists → List Lane → Type 0
AtEachStep Law script word =
    (front : List Lane) (letter : Lane) → BeginsWith word (front ++ letter ∷ []) → Law (lanes_at script front) letter

-- The law is true at each moment of the word.
abbrev pub AtEachMoment : (Lanes → Type 0) → ScriptLists → List Lane → Type 0
AtEachMoment Law script word = (front : List Lane) → BeginsWith word front → Law (lanes_at script front)

-- What the run of a script keeps, in the order of a word.
-- Frames: the commit numbers never fall, each frame shows commit 0 or one that was committed, pulled and activated
-- before, and a commit that was never pulled leaves no trace.
-- Groups: they start together with their targets present, finish together, and one alone blocks a property.
-- Models: each starts once and ends once at most, and an aborted one was active.
-- Hearing: main hears each event once, in order, and the counts add up.
pub record KeepsLaws (script : ScriptLists) (word : List Lane) : Type 0 where
  pub numbers : CommitNumbersNeverFall (report_of script word)
  pub shown : AllShowActivated script word
  pub silent : SkippedIsSilent script word
  pub start_together : AtEachStep StartsTogether script word
  pub targets : AtEachStep TargetsPresent script word
  pub finish_together : AtEachStep FinishesTogether script word
  pub one_blocker : AtEachMoment (λ lanes. OneBlocker lanes.compositor.marks) script word
  pub ends_once : EndsOnce (lanes_at script word).compositor.marks
  pub aborted : AtEachStep AbortedWasActive script word
  pub heard : HeardOnce script word
  pub counts : CountsAddUp script word

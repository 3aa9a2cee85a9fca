-- What main hears: each event once, in order, and counted.
use Rattle.std.specs.Prelude.{◌≡◌, ℕ, ◌+◌, List, [], ◌∷◌, ◌++◌, length, flat_map}
use Rattle.anim_names.specs.declared.event.AnimEvent.{AnimEvent}
use Rattle.anim_names.specs.declared.lane.Lane.{Lane}
use Rattle.anim_names.specs.declared.lane.Lane.TheVariants.{Main, Compositor}
use Rattle.run_rules.specs.Scripts.{StepOfMain, EditStep, CommitStep, DrainStep, ScriptLists}
use Rattle.run_rules.specs.Runs.{Lanes, unheard_events, beginning, after_letter, report_of}

-- what main's next step hears of the unheard events: a drain hears them all
abbrev pub batch_of_step : List StepOfMain → List AnimEvent → List (List AnimEvent)
batch_of_step [] unheard = []
batch_of_step (EditStep change ∷ left) unheard = []
batch_of_step (CommitStep ∷ left) unheard = []
batch_of_step (DrainStep ∷ left) unheard = unheard ∷ []

-- what the step of a letter hears
abbrev pub batch_of_letter : Lanes → Lane → List (List AnimEvent)
batch_of_letter lanes Main = batch_of_step lanes.main.left (unheard_events lanes.compositor.marks lanes.main)
batch_of_letter lanes Compositor = []

-- what each drain of a word hears, in order, and last what the closing one hears
unfoldable pub batches : Lanes → List Lane → List (List AnimEvent)
batches lanes [] = unheard_events lanes.compositor.marks lanes.main ∷ []
batches lanes (letter ∷ word) = batch_of_letter lanes letter ++ batches (after_letter lanes letter) word

-- What all drains hear, one batch behind the other, is the list of all events.
abbrev pub HeardOnce : ScriptLists → List Lane → Type 0
HeardOnce script word = flat_map (λ batch. batch) (batches (beginning script) word) ≡ (report_of script word).events

-- how many events are heard after each batch, where this many were heard before
abbrev pub totals : ℕ → List (List AnimEvent) → List ℕ
totals before [] = []
totals before (batch ∷ batches) = (before + length batch) ∷ totals (before + length batch) batches

-- The report's counts are those of the events heard so far, drain by drain.
abbrev pub CountsAddUp : ScriptLists → List Lane → Type 0
CountsAddUp script word = (report_of script word).heard ≡ totals 0 (batches (beginning script) word)

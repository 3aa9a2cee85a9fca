-- Which commits frames show: those that were committed, pulled and activated before, in that order.
use Rattle.std.specs.Prelude.{◌≡◌, ◌⊎◌, ℕ, ◌+◌, ◌<◌, IsTrue, List, [], ◌∷◌, ◌++◌, length, map, Some, None, IsSomeAnd}
use Rattle.anim_names.specs.declared.lane.Lane.{Lane}
use Rattle.anim_names.specs.declared.lane.Lane.TheVariants.{Main, Compositor}
use Rattle.anim_names.specs.Lists.{BeginsWith, IsAmong}
use Rattle.run_rules.specs.declared.mark.Mark.{Mark}
use Rattle.tree_commit.specs.Trees.{Committed, has_model}
use Rattle.run_rules.specs.Marks.{is_about}
use Rattle.run_rules.specs.Frames.{DrawnFrame}
use Rattle.run_rules.specs.Scripts.{ScriptLists, never_fall_from}
use Rattle.run_rules.specs.Runs.{Lanes, ReportLists, beginning, after}

-- ---- commit numbers never fall

-- Each frame of a report shows the commit of the frame before it or a later one.
abbrev pub CommitNumbersNeverFall : ReportLists → Type 0
CommitNumbersNeverFall report = IsTrue (never_fall_from 0 (map (λ frame. frame.commit) report.frames))

-- ---- where a commit has been

-- the state after the first steps of a run
abbrev pub lanes_at : ScriptLists → List Lane → Lanes
lanes_at script front = after (beginning script) front

-- A step of main in this word made the commit: there was one commit less before it.
pub record WasCommitted (script : ScriptLists) (commit : Committed) (word : List Lane) : Type 0 where
  pub front : List Lane
  pub step : BeginsWith word (front ++ Main ∷ [])
  pub number : length (lanes_at script front).main.commits + 1 ≡ commit.number
  pub made : IsAmong commit (lanes_at script (front ++ Main ∷ [])).main.commits

-- A step of the compositor in this word pulled the commit, after it was made.
pub record WasPulled (script : ScriptLists) (commit : Committed) (word : List Lane) : Type 0 where
  pub front : List Lane
  pub step : BeginsWith word (front ++ Compositor ∷ [])
  pub committed : WasCommitted script commit front
  pub free : (lanes_at script front).compositor.pending ≡ None
  pub pulled : (lanes_at script (front ++ Compositor ∷ [])).compositor.pending ≡ Some commit

-- A step of the compositor in this word made the commit active, after it was pulled.
pub record WasActivated (script : ScriptLists) (commit : Committed) (word : List Lane) : Type 0 where
  pub front : List Lane
  pub step : BeginsWith word (front ++ Compositor ∷ [])
  pub pulled : WasPulled script commit front
  pub pending : (lanes_at script front).compositor.pending ≡ Some commit
  pub activated : (lanes_at script (front ++ Compositor ∷ [])).compositor.active ≡ commit

-- A step of this word drew the frame, and what it shows is commit 0 or was activated before that step.
pub record ShowsActivated (script : ScriptLists) (frame : DrawnFrame) (word : List Lane) : Type 0 where
  pub front : List Lane
  pub step : BeginsWith word (front ++ Compositor ∷ [])
  pub drawn :
      (lanes_at script (front ++ Compositor ∷ [])).compositor.frames ≡ (lanes_at script front).compositor.frames ++ frame ∷ []
  pub shown : (frame.commit ≡ 0) ⊎ ((commit : Committed) × (frame.commit ≡ commit.number) × WasActivated script commit front)

-- Each frame shows what was committed, pulled and activated before it.
abbrev pub AllShowActivated : ScriptLists → List Lane → Type 0
AllShowActivated script word =
    (frame : DrawnFrame) → IsAmong frame (lanes_at script word).compositor.frames → ShowsActivated script frame word

-- ---- commits that are never pulled

-- At no moment of this word is the commit of this number pending, as where a newer one replaced it before any pull.
abbrev pub IsSkipped : ScriptLists → List Lane → ℕ → Type 0
IsSkipped script word number =
    (front : List Lane) → BeginsWith word front
    → IsSomeAnd (lanes_at script front).compositor.pending (λ commit. commit.number ≡ number) → ⊥

-- A skipped commit is in no frame. A model that is in skipped commits alone has no mark, and so no event.
pub record SkippedIsSilent (script : ScriptLists) (word : List Lane) : Type 0 where
  pub frames :
      (number : ℕ) → 0 < number → IsSkipped script word number
      → (frame : DrawnFrame) → IsAmong frame (lanes_at script word).compositor.frames → frame.commit ≡ number → ⊥
  pub events :
      (id : ℕ)
      → ((commit : Committed) → IsAmong commit (lanes_at script word).main.commits → IsTrue (has_model commit.tree id) → IsSkipped script word commit.number)
      → (mark : Mark) → IsAmong mark (lanes_at script word).compositor.marks → IsTrue (is_about id mark) → ⊥

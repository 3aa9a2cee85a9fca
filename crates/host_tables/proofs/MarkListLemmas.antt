-- The news, as a mark comes.
use Rattle.std.proofs.Common.{◌≡◌, ℕ, ◌≤◌, List, [], ◌∷◌, ◌++◌, length, map, drop, ap, ◌∙◌}
use Rattle.std.proofs.lemmas.List.{map-append, drop-append-le}
use Rattle.run_rules.specs.declared.mark.Mark.{Mark}
use Rattle.run_rules.specs.Marks.{event_of}
use Rattle.host_tables.specs.MarkLists.{StartIsWithin, StartsAreWithin, events_behind}

-- a mark comes behind the others, and its event behind the other news
pub behind : (cleared : ℕ) (marks : List Mark) (mark : Mark) → cleared ≤ length marks
    → events_behind cleared (marks ++ mark ∷ []) ≡ events_behind cleared marks ++ event_of mark ∷ []
behind cleared marks mark within =
    ap (map event_of) (drop-append-le cleared marks (mark ∷ []) within) ∙ map-append event_of (drop cleared marks) (mark ∷ [])

-- it is in range, and so are the others
pub within-push : (marks : List Mark) (mark : Mark) → StartsAreWithin marks → StartIsWithin mark → StartsAreWithin (marks ++ mark ∷ [])
within-push [] mark within one = (one, tt)
within-push (first ∷ marks) mark within one = (within.0, within-push marks mark within.1 one)

pub ruleset pushes = (behind, within-push)

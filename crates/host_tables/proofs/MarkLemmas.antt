-- The start of a model, as it is read off the marks.
use Rattle.std.proofs.Common.{◌≡◌, ℕ, ◌+◌, ◌≤◌, Bool, true, false, List, [], ◌∷◌, Option, Some, None, refl, ap, ◌∙◌}
use Rattle.std.specs.Prelude.{ℤ, unsigned_abs, IfSome, ◌==◌, if◌then◌else◌}
use Rattle.anim_timeline.specs.declared.TheConstants.{LAST_TIME}
use Rattle.tree_commit.specs.declared.shown.Shown.{Shown}
use Rattle.run_rules.specs.declared.mark.Mark.{Mark}
use Rattle.run_rules.specs.declared.mark.Mark.TheVariants.{OfModel}
use Rattle.run_rules.specs.declared.mark.ModelMark.{ModelMark}
use Rattle.run_rules.specs.declared.mark.ModelMark.TheVariants.{Started, Finished, Aborted}
use Rattle.run_rules.specs.Marks.{start_from, start_of, start_or}
use Rattle.host_tables.specs.MarkLists.{BeginsWithin, StartsAreWithin, begun_start, start_in}

start-from : ℕ → Option ℤ → Option Shown → Option Shown
start-from index None rest = rest
start-from index (Some start) rest = Some (record { start = start; order = index })

start-here : (index id : ℕ) (mark : Mark) (marks : List Mark)
    → start_from index (mark ∷ marks) id ≡ start-from index (start_in id mark) (start_from (index + 1) marks id)
unfolding start-from
start-here index id (OfModel model what) marks = by what (id == model)
  where
    by : (what : ModelMark) (is_it : Bool)
        → start_or what is_it index (start_from (index + 1) marks id)
        ≡ start-from index (if is_it then begun_start what else None) (start_from (index + 1) marks id)
    by (Started begun) true = refl
    by (Started begun) false = refl
    by (Finished at) true = refl
    by (Finished at) false = refl
    by (Aborted commit) true = refl
    by (Aborted commit) false = refl

-- the mark records the model's start
pub start-found : (index id : ℕ) (mark : Mark) (marks : List Mark) (start : ℤ) → start_in id mark ≡ Some start
    → start_from index (mark ∷ marks) id ≡ Some (record { start = start; order = index })
unfolding start-from
start-found index id mark marks start found =
    start-here index id mark marks ∙ ap (λ o. start-from index o (start_from (index + 1) marks id)) found

-- it records none
pub start-later : (index id : ℕ) (mark : Mark) (marks : List Mark) → start_in id mark ≡ None
    → start_from index (mark ∷ marks) id ≡ start_from (index + 1) marks id
unfolding start-from
start-later index id mark marks none =
    start-here index id mark marks ∙ ap (λ o. start-from index o (start_from (index + 1) marks id)) none

-- ---- recorded starts in range

found-within : (what : ModelMark) (is_it : Bool) (index : ℕ) (rest : Option Shown) → BeginsWithin what
    → IfSome rest (λ s. unsigned_abs s.start ≤ LAST_TIME)
    → IfSome (start_or what is_it index rest) (λ s. unsigned_abs s.start ≤ LAST_TIME)
found-within (Started begun) true index rest one others = one
found-within (Started begun) false index rest one others = others
found-within (Finished at) is_it index rest one others = others
found-within (Aborted commit) is_it index rest one others = others

start-within : (index : ℕ) (marks : List Mark) (id : ℕ) → StartsAreWithin marks
    → IfSome (start_from index marks id) (λ s. unsigned_abs s.start ≤ LAST_TIME)
start-within index [] id within = tt
start-within index (OfModel model what ∷ marks) id within =
    found-within what (id == model) index (start_from (index + 1) marks id) within.0 (start-within (index + 1) marks id within.1)

-- the recorded start of a model is in range
pub start_within : (marks : List Mark) (id : ℕ) → StartsAreWithin marks
    → IfSome (start_of marks id) (λ s. unsigned_abs s.start ≤ LAST_TIME)
start_within marks id within = start-within 0 marks id within

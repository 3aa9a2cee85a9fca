-- How a model's marks follow one another: it starts once at most, ends once at most, and no mark stands after its end.
use Rattle.std.specs.Prelude.{◌≡◌, ℕ, ◌≤◌, ◌==◌, Bool, false, not, ◌&&◌, IsTrue, List, ◌∷◌, ◌++◌, count_by, IsSomeAnd, true}
use Rattle.std.specs.List.{list_any}
use Rattle.anim_names.specs.declared.lane.Lane.{Lane}
use Rattle.run_rules.specs.declared.mark.Mark.{Mark}
use Rattle.run_rules.specs.declared.mark.Mark.TheVariants.{OfModel}
use Rattle.run_rules.specs.declared.mark.ModelMark.{ModelMark}
use Rattle.run_rules.specs.declared.mark.ModelMark.TheVariants.{Started, Finished, Aborted}
use Rattle.tree_commit.specs.Trees.{has_model}
use Rattle.run_rules.specs.Marks.{began, of_model, says, is_about, starts, ends, is_started, is_ended}
use Rattle.run_rules.specs.Runs.{Lanes}
use Rattle.anim_names.specs.Lists.{IsAmong}
use Rattle.run_laws.specs.Steps.{new_marks}

-- ---- marks of a model

-- What may become of a model next, which started or not, and ended or not: it starts where neither was so, finishes where
-- it runs, and is aborted where it has not ended.
abbrev pub may_become : Bool → Bool → ModelMark → Bool
may_become started ended (Started begun) = not started && not ended
may_become started ended (Finished at) = started && not ended
may_become started ended (Aborted commit) = not ended

-- Over the marks before it, a mark may come next.
abbrev pub may_follow : List Mark → Mark → Bool
may_follow before (OfModel model what) = may_become (is_started before model) (is_ended before model) what

-- A model starts at most once and ends at most once, so it has at most two marks, and each mark is one that may follow
-- those before it.
pub record EndsOnce (marks : List Mark) : Type 0 where
  pub starts : (id : ℕ) → count_by (starts id) marks ≤ 1
  pub ends : (id : ℕ) → count_by (ends id) marks ≤ 1
  pub two_marks : (id : ℕ) → count_by (is_about id) marks ≤ 2
  pub order : (before behind : List Mark) (mark : Mark) → marks ≡ before ++ mark ∷ behind → IsTrue (may_follow before mark)

-- ---- aborts

-- A model that a step aborts was in the commit that was active before it, and the mark names the commit that was pending.
abbrev pub AbortedWasActive : Lanes → Lane → Type 0
AbortedWasActive lanes letter =
    (model commit : ℕ) → IsAmong (OfModel model (Aborted commit)) (new_marks lanes letter)
    → IsTrue (has_model lanes.compositor.active.tree model)
    × IsSomeAnd lanes.compositor.pending (λ pending. pending.number ≡ commit)

-- ---- marks of a group

-- the model finished
abbrev pub is_finish : ModelMark → Bool
is_finish (Started begun) = false
is_finish (Finished at) = true
is_finish (Aborted commit) = false

-- this model finished
abbrev pub finishes : ℕ → Mark → Bool
finishes id mark = says is_finish id mark

abbrev pub is_finished : List Mark → ℕ → Bool
is_finished marks id = list_any (finishes id) marks

-- the mark is the start of a model of this group that finished
abbrev pub starts_finished : List Mark → ℕ → Mark → Bool
starts_finished marks group mark =
    of_model (λ model what. began (λ begun. group == begun.group) what && is_finished marks model) mark

-- a model of the group finished
abbrev pub is_group_finished : List Mark → ℕ → Bool
is_group_finished marks group = list_any (starts_finished marks group) marks

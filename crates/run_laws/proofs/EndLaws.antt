-- Laws of a model's marks.
use Rattle.std.proofs.Common.{◌≡◌, ℕ, ◌+◌, ◌≤◌, Bool, true, false, not, cond, List, [], ◌∷◌, ◌++◌, refl, sym, ap, ◌∙◌, subst, append_assoc, arith}
use Rattle.std.specs.Prelude.{count_by, IsSomeAnd}
use Rattle.std.specs.List.{list_any}
use Rattle.std.proofs.lemmas.Bool.{false≢true, and_parts, not-true, or_right, or_left}
use Rattle.std.proofs.lemmas.List.{append-nil}
use Rattle.std.proofs.lemmas.List.Folds.{list_any-append}
use Rattle.std.proofs.lemmas.List.Sums.{sum_by-cons}
use Rattle.anim_names.specs.declared.lane.Lane.{Lane}
use Rattle.run_rules.specs.declared.mark.Mark.{Mark}
use Rattle.run_rules.specs.declared.mark.Mark.TheVariants.{OfModel}
use Rattle.run_rules.specs.declared.mark.ModelMark.TheVariants.{Started, Finished, Aborted}
use Rattle.run_rules.specs.Marks.{starts, ends, is_started, is_ended, is_about, is_end, is_start}
use Rattle.run_rules.specs.Scripts.{ScriptLists, IsWellFormed}
use Rattle.run_rules.specs.Runs.{Lanes, beginning, after}
use Rattle.run_rules.specs.declared.mark.ModelMark.{ModelMark}
use Rattle.run_rules.proofs.MarkLemmas.{says-model, says-what}
use Rattle.run_laws.specs.Ends.{may_follow, EndsOnce, AbortedWasActive, may_become}
use Rattle.run_laws.specs.ActiveCommit.{EndedHadStarted, GroupsAreWhole}
use Rattle.run_laws.proofs.MarkFacts.{AreInOrder, any-more}
use Rattle.run_laws.proofs.RunFits.{run_fits}
use Rattle.run_laws.proofs.GroupLaws.{Kind, by_finish, by_start, by_abort, kind_of, marked_are_active}
use Rattle.run_laws.proofs.StepLemmas.{new-mark}

-- ---- counts of marks in order

start-comes : (started ended : Bool) (what : ModelMark) → may_become started ended what ≡ true → is_start what ≡ true → started ≡ false
start-comes started ended (Started begun) may s = not-true _ (and_parts (not started) _ may).0
start-comes started ended (Finished at) may s = absurd (false≢true s)
start-comes started ended (Aborted commit) may s = absurd (false≢true s)

end-comes : (started ended : Bool) (what : ModelMark) → may_become started ended what ≡ true → is_end what ≡ true → ended ≡ false
end-comes started ended (Started begun) may s = absurd (false≢true s)
end-comes started ended (Finished at) may s = not-true _ (and_parts started _ may).1
end-comes started ended (Aborted commit) may s = not-true _ may

start_follows : (before : List Mark) (mark : Mark) (id : ℕ) → may_follow before mark ≡ true → starts id mark ≡ true → is_started before id ≡ true → ⊥
start_follows before (OfModel model what) id may s old =
    false≢true (sym (start-comes _ _ what may (says-what is_start id model what s)) ∙ subst (λ i. is_started before i ≡ true) (says-model is_start id (OfModel model what) s) old)

end_follows : (before : List Mark) (mark : Mark) (id : ℕ) → may_follow before mark ≡ true → ends id mark ≡ true → is_ended before id ≡ true → ⊥
end_follows before (OfModel model what) id may s old =
    false≢true (sym (end-comes _ _ what may (says-what is_end id model what s)) ∙ subst (λ i. is_ended before i ≡ true) (says-model is_end id (OfModel model what) s) old)

-- what one mark adds to a count
abbrev weight : Bool → ℕ
weight passes = cond passes 1 0

-- a count of marks that pass a test, none of which may follow another
module _ (p : Mark → Bool) (alone : (before : List Mark) (mark : Mark) → may_follow before mark ≡ true → p mark ≡ true → list_any p before ≡ true → ⊥) where
  none_more : (before marks : List Mark) → AreInOrder before marks → list_any p before ≡ true → count_by p marks ≡ 0
  none_more before [] order old = refl
  none_more before (mark ∷ marks) order old = go (p mark) refl (none_more (before ++ mark ∷ []) marks order.1 (any-more p before (mark ∷ []) old))
    where
      go : (passes : Bool) → p mark ≡ passes → count_by p marks ≡ 0 → count_by p (mark ∷ marks) ≡ 0
      go true e rest = absurd (alone before mark order.0 e old)
      go false e rest =
          let counted : count_by p (mark ∷ marks) ≡ weight (p mark) + count_by p marks = sum_by-cons (λ x. cond (p x) 1 0) mark marks in
          let own : weight (p mark) ≡ 0 = ap weight e in
          omega (arith, counted, own, rest)

  at_most_one : (before marks : List Mark) → AreInOrder before marks → count_by p marks ≤ 1
  at_most_one before [] order = omega arith
  at_most_one before (mark ∷ marks) order = go (p mark) refl (at_most_one (before ++ mark ∷ []) marks order.1)
    where
      go : (passes : Bool) → p mark ≡ passes → count_by p marks ≤ 1 → count_by p (mark ∷ marks) ≤ 1
      go true e rest =
          let counted : count_by p (mark ∷ marks) ≡ weight (p mark) + count_by p marks = sum_by-cons (λ x. cond (p x) 1 0) mark marks in
          let own : weight (p mark) ≡ 1 = ap weight e in
          let here : list_any p (before ++ mark ∷ []) ≡ true = list_any-append p before (mark ∷ []) ∙ or_right (list_any p before) _ (or_left (p mark) false e) in
          let more : count_by p marks ≡ 0 = none_more (before ++ mark ∷ []) marks order.1 here in
          omega (arith, counted, own, more)
      go false e rest =
          let counted : count_by p (mark ∷ marks) ≡ weight (p mark) + count_by p marks = sum_by-cons (λ x. cond (p x) 1 0) mark marks in
          let own : weight (p mark) ≡ 0 = ap weight e in
          omega (arith, counted, own, rest)

-- a mark of a model is a start or an end of it
either_kind : (id : ℕ) (mark : Mark) → weight (is_about id mark) ≡ weight (starts id mark) + weight (ends id mark)
either_kind id (OfModel model (Started begun)) = omega arith
either_kind id (OfModel model (Finished at)) = omega arith
either_kind id (OfModel model (Aborted commit)) = omega arith

count-both : (id : ℕ) (marks : List Mark) → count_by (is_about id) marks ≡ count_by (starts id) marks + count_by (ends id) marks
count-both id [] = omega arith
count-both id (mark ∷ marks) =
    let both : count_by (is_about id) (mark ∷ marks) ≡ weight (is_about id mark) + count_by (is_about id) marks = sum_by-cons (λ x. cond (is_about id x) 1 0) mark marks in
    let started : count_by (starts id) (mark ∷ marks) ≡ weight (starts id mark) + count_by (starts id) marks = sum_by-cons (λ x. cond (starts id x) 1 0) mark marks in
    let ended : count_by (ends id) (mark ∷ marks) ≡ weight (ends id mark) + count_by (ends id) marks = sum_by-cons (λ x. cond (ends id x) 1 0) mark marks in
    omega (arith, both, started, ended, either_kind id mark, count-both id marks)

order-at : (first before behind : List Mark) (mark : Mark) → AreInOrder first (before ++ mark ∷ behind) → may_follow (first ++ before) mark ≡ true
order-at first [] behind mark h = subst (λ l. may_follow l mark ≡ true) (sym (append-nil first)) h.0
order-at first (one ∷ before) behind mark h = subst (λ l. may_follow l mark ≡ true) (append_assoc first (one ∷ []) before) (order-at (first ++ one ∷ []) before behind mark h.1)

ends_once : (marks : List Mark) → AreInOrder [] marks → EndsOnce marks
ends_once marks h =
    let starts_one : ((id : ℕ) → count_by (starts id) marks ≤ 1) = λ id. at_most_one (starts id) (λ before mark may s old. start_follows before mark id may s old) [] marks h in
    let ends_one : ((id : ℕ) → count_by (ends id) marks ≤ 1) = λ id. at_most_one (ends id) (λ before mark may s old. end_follows before mark id may s old) [] marks h in
    record {
      starts = starts_one;
      ends = ends_one;
      two_marks = λ id. omega (arith, count-both id marks, starts_one id, ends_one id);
      order = λ before behind mark e. order-at [] before behind mark (subst (λ l. AreInOrder [] l) e h);
    }

pub models_end_once : (script : ScriptLists) → IsWellFormed script → (word : List Lane) → EndsOnce (after (beginning script) word).compositor.marks
models_end_once script well word = ends_once _ (run_fits script well word).compositor.marks.order

-- ---- aborts

aborted_by : (lanes : Lanes) (model commit : ℕ) (mark : Mark) → mark ≡ OfModel model (Aborted commit) → Kind lanes mark → IsSomeAnd lanes.compositor.pending (λ pending. pending.number ≡ commit)
aborted_by lanes model commit mark same (by_finish time other there running e) = absurd cc
aborted_by lanes model commit mark same (by_start time left next is) = let started = is.is in absurd cc
aborted_by lanes model commit mark same (by_abort number other pending there e) =
    subst (λ p. IsSomeAnd p (λ pending. pending.number ≡ commit)) (sym pending) cc

pub aborted_was_active : (lanes : Lanes) (letter : Lane) → AbortedWasActive lanes letter
aborted_was_active lanes letter model commit a = (
  marked_are_active lanes letter (OfModel model (Aborted commit)) a,
  aborted_by lanes model commit (OfModel model (Aborted commit)) refl (kind_of lanes (OfModel model (Aborted commit)) (new-mark lanes letter (OfModel model (Aborted commit)) a)),
)

-- ---- the active commit

pub ended_had_started : (script : ScriptLists) → IsWellFormed script → (word : List Lane) → EndedHadStarted (after (beginning script) word)
ended_had_started script well word = (run_fits script well word).compositor.marks.ended

pub groups_are_whole : (script : ScriptLists) → IsWellFormed script → (word : List Lane) → GroupsAreWhole (after (beginning script) word)
groups_are_whole script well word =
    let fits = (run_fits script well word).compositor.marks in
    record { started = fits.grouped; alike = fits.alike }

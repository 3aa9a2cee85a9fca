-- How far models have come: what one more mark changes, and what a state says.
use Rattle.std.proofs.Common.{◌≡◌, ◌≢◌, ℕ, ◌+◌, ◌≤◌, Bool, true, false, not, ◌||◌, List, [], ◌∷◌, ◌++◌, length, Option, Some, None, refl, sym, ap, ◌∙◌, arith}
use Rattle.std.specs.Prelude.{ℤ, is_some, unsigned_abs, IfSome, if◌then◌else◌, ◌==◌, ◌&&◌}
use Rattle.std.specs.List.{list_any}
use Rattle.std.proofs.lemmas.Bool.{and_from, and_parts, eq-eqb, ne_eqb, or_left, or_parts, true≢false}
use Rattle.std.proofs.lemmas.List.{append-nil}
use Rattle.std.proofs.lemmas.List.Folds.{list_any-append}
use Rattle.std.proofs.Math.Bool.{or-false}
use Rattle.anim_names.specs.Lists.{IsAmong}
use Rattle.anim_timeline.specs.declared.TheConstants.{LAST_TIME}
use Rattle.keyframe_model.specs.Models.{Spec}
use Rattle.keyframe_effect.specs.declared.state.RunState.TheVariants as state
use Rattle.keyframe_effect.specs.States as effect
use Rattle.tree_commit.specs.declared.shown.Shown.{Shown}
use Rattle.tree_commit.specs.Trees.{TreeLists}
use Rattle.tree_commit.proofs.Among.{among-has, any-among, any-cases, any-none}
use Rattle.run_rules.specs.declared.mark.Mark.{Mark}
use Rattle.run_rules.specs.declared.mark.Mark.TheVariants.{OfModel}
use Rattle.run_rules.specs.declared.mark.ModelMark.{ModelMark}
use Rattle.run_rules.specs.declared.mark.ModelMark.TheVariants.{Started, Finished, Aborted}
use Rattle.run_rules.specs.Follows.{Follows, has_mark}
use Rattle.run_rules.specs.Frames.{shown_by}
use Rattle.run_rules.specs.Marks.{aborts, ends, is_abort, is_aborted, is_about, is_end, is_ended, is_start, is_started, is_unfinished, says, start_from, start_of, start_or, starts}
use Rattle.run_rules.proofs.MarkLemmas.{abort-is_end, says-model, says-other, says-own, says-what}
use Rattle.host_tables.specs.Groups.{is_waiting}
use Rattle.host_tables.specs.MarkLists.{StartsAreWithin, begun_start, mark_if, start_in}
use Rattle.host_tables.specs.States.{FinishesStarted, advanced, is_among, shown_at, state_from, state_of}
use Rattle.host_tables.proofs.MarkLemmas.{start-found, start-later, start_within}

-- ---- marks with one more

pub one_any : {A : Type 0} (p : A → Bool) (xs : List A) (x : A) → list_any p (xs ++ x ∷ []) ≡ (list_any p xs || p x)
one_any p xs x = list_any-append p xs (x ∷ []) ∙ ap (λ b. list_any p xs || b) (or-false (p x))

pub started-more : (marks : List Mark) (mark : Mark) (id : ℕ) → is_started (marks ++ mark ∷ []) id ≡ (is_started marks id || starts id mark)
started-more marks mark id = one_any (starts id) marks mark

pub ended-more : (marks : List Mark) (mark : Mark) (id : ℕ) → is_ended (marks ++ mark ∷ []) id ≡ (is_ended marks id || ends id mark)
ended-more marks mark id = one_any (ends id) marks mark

pub aborted-more : (marks : List Mark) (mark : Mark) (id : ℕ) → is_aborted (marks ++ mark ∷ []) id ≡ (is_aborted marks id || aborts id mark)
aborted-more marks mark id = one_any (aborts id) marks mark

-- the start that is found first, else the one of a mark with this index
abbrev or_start : Option Shown → Option ℤ → ℕ → Option Shown
or_start (Some shown) start order = Some shown
or_start None None order = None
or_start None (Some start) order = Some (record { start = start; order = order })

start-more : (index : ℕ) (marks : List Mark) (mark : Mark) (id : ℕ)
    → start_from index (marks ++ mark ∷ []) id ≡ or_start (start_from index marks id) (start_in id mark) (index + length marks)
start-more index [] mark id = last (start_in id mark) refl
  where
    last : (o : Option ℤ) → start_in id mark ≡ o → start_from index (mark ∷ []) id ≡ or_start None o (index + 0)
    last None is = start-later index id mark [] is
    last (Some start) is =
        let n : index ≡ index + 0 = omega arith in
        start-found index id mark [] start is ∙ ap (λ (k : ℕ). Some (record { start = start; order = k })) n
start-more index (first ∷ marks) mark id = here (start-more (index + 1) marks mark id) (start_in id first) refl
  where
    here : start_from (index + 1) (marks ++ mark ∷ []) id ≡ or_start (start_from (index + 1) marks id) (start_in id mark) ((index + 1) + length marks)
        → (o : Option ℤ) → start_in id first ≡ o
        → start_from index (first ∷ (marks ++ mark ∷ [])) id ≡ or_start (start_from index (first ∷ marks) id) (start_in id mark) (index + length (first ∷ marks))
    here rest None is =
        let n : (index + 1) + length marks ≡ index + length (first ∷ marks) = omega arith in
        start-later index id first (marks ++ mark ∷ []) is
        ∙ rest
        ∙ ap (λ (k : ℕ). or_start (start_from (index + 1) marks id) (start_in id mark) k) n
        ∙ ap (λ (s : Option Shown). or_start s (start_in id mark) (index + length (first ∷ marks))) (sym (start-later index id first marks is))
    here rest (Some start) is =
        start-found index id first (marks ++ mark ∷ []) start is
        ∙ ap (λ (s : Option Shown). or_start s (start_in id mark) (index + length (first ∷ marks))) (sym (start-found index id first marks start is))

-- a recorded start stays as marks come
pub start-kept : (marks : List Mark) (mark : Mark) (id : ℕ) (shown : Shown) → start_of marks id ≡ Some shown
    → start_of (marks ++ mark ∷ []) id ≡ Some shown
start-kept marks mark id shown is =
    start-more 0 marks mark id ∙ ap (λ (s : Option Shown). or_start s (start_in id mark) (0 + length marks)) is

-- ---- the state with one more mark

started-some : (index : ℕ) (marks : List Mark) (id : ℕ) → is_some (start_from index marks id) ≡ is_started marks id
started-some index [] id = refl
started-some index (OfModel model what ∷ marks) id = by what (id == model) (started-some (index + 1) marks id)
  where
    by : (what : ModelMark) (is_it : Bool) → is_some (start_from (index + 1) marks id) ≡ is_started marks id
        → is_some (start_or what is_it index (start_from (index + 1) marks id)) ≡ ((is_start what && is_it) || is_started marks id)
    by (Started begun) true rest = refl
    by (Started begun) false rest = rest
    by (Finished at) is_it rest = rest
    by (Aborted commit) is_it rest = rest

-- a start is recorded exactly where the model started
pub start_of-started : (marks : List Mark) (id : ℕ) → is_some (start_of marks id) ≡ is_started marks id
start_of-started marks id = started-some 0 marks id

-- what is read of a model after what became of it, by what was read of it before
state-next : (aborted ended : Bool) (before : Option Shown) (what : ModelMark) (order : ℕ)
    → (ended ≡ true → aborted ≡ false → is_some before ≡ true)
    → state_from (aborted || is_abort what) (ended || is_end what) (or_start before (begun_start what) order)
    ≡ advanced (state_from aborted ended before) what order
state-next true ended before (Started begun) order fits = refl
state-next false true (Some shown) (Started begun) order fits = refl
state-next false true None (Started begun) order fits = cc (fits refl refl)
state-next false false (Some shown) (Started begun) order fits = refl
state-next false false None (Started begun) order fits = refl
state-next true ended before (Finished at) order fits = refl
state-next false true None (Finished at) order fits = refl
state-next false true (Some shown) (Finished at) order fits = refl
state-next false false None (Finished at) order fits = refl
state-next false false (Some shown) (Finished at) order fits = refl
state-next true ended before (Aborted commit) order fits = refl
state-next false ended before (Aborted commit) order fits = refl

kept : (before : Option Shown) (order : ℕ) → or_start before None order ≡ before
kept None order = refl
kept (Some shown) order = refl

-- the parts of which a state is made, with one more mark
parts : (marks : List Mark) (mark : Mark) (id : ℕ)
    → state_of (marks ++ mark ∷ []) id
    ≡ state_from (is_aborted marks id || aborts id mark) (is_ended marks id || ends id mark) (or_start (start_of marks id) (start_in id mark) (length marks))
unfolding state_of
parts marks mark id =
    ap (λ (a : Bool). state_from a (is_ended (marks ++ mark ∷ []) id) (start_of (marks ++ mark ∷ []) id)) (aborted-more marks mark id)
    ∙ ap (λ (e : Bool). state_from (is_aborted marks id || aborts id mark) e (start_of (marks ++ mark ∷ []) id)) (ended-more marks mark id)
    ∙ ap (λ (s : Option Shown). state_from (is_aborted marks id || aborts id mark) (is_ended marks id || ends id mark) s)
    (start-more 0 marks mark id ∙ ap (λ (k : ℕ). or_start (start_of marks id) (start_in id mark) k) (let n : 0 + length marks ≡ length marks = omega arith in n))

-- a mark about another model changes nothing
same-parts : (marks : List Mark) (a e : Bool) (o : Option ℤ) (id : ℕ) → a ≡ false → e ≡ false → o ≡ None
    → state_from (is_aborted marks id || a) (is_ended marks id || e) (or_start (start_of marks id) o (length marks)) ≡ state_of marks id
unfolding state_of
same-parts marks a e o id no_abort no_end no_start =
    ap (λ (b : Bool). state_from (is_aborted marks id || b) (is_ended marks id || e) (or_start (start_of marks id) o (length marks))) no_abort
    ∙ ap (λ (b : Bool). state_from (is_aborted marks id || false) (is_ended marks id || b) (or_start (start_of marks id) o (length marks))) no_end
    ∙ ap (λ (b : Option ℤ). state_from (is_aborted marks id || false) (is_ended marks id || false) (or_start (start_of marks id) b (length marks))) no_start
    ∙ ap (λ (b : Bool). state_from b (is_ended marks id || false) (or_start (start_of marks id) None (length marks))) (or-false (is_aborted marks id))
    ∙ ap (λ (b : Bool). state_from (is_aborted marks id) b (or_start (start_of marks id) None (length marks))) (or-false (is_ended marks id))
    ∙ ap (λ (s : Option Shown). state_from (is_aborted marks id) (is_ended marks id) s) (kept (start_of marks id) (length marks))

pub state-other : (marks : List Mark) (model : ℕ) (what : ModelMark) (id : ℕ) → id ≢ model
    → state_of (marks ++ OfModel model what ∷ []) id ≡ state_of marks id
state-other marks model what id other =
    let differ : (id == model) ≡ false = ne_eqb id model other in
    parts marks (OfModel model what) id
    ∙ same-parts marks (aborts id (OfModel model what)) (ends id (OfModel model what)) (start_in id (OfModel model what)) id
    (says-other is_abort id model what differ) (says-other is_end id model what differ)
    (ap (λ b. if b then begun_start what else None) differ)

-- a mark about the model advances it
pub state-here : (marks : List Mark) (model : ℕ) (what : ModelMark) → FinishesStarted marks
    → state_of (marks ++ OfModel model what ∷ []) model ≡ advanced (state_of marks model) what (length marks)
unfolding state_of
state-here marks model what fits =
    parts marks (OfModel model what) model
    ∙ (λ i.
    state_from (is_aborted marks model || says-own is_abort model what i) (is_ended marks model || says-own is_end model what i)
    (or_start (start_of marks model) (if eq-eqb model model refl i then begun_start what else None) (length marks)))
    ∙ state-next (is_aborted marks model) (is_ended marks model) (start_of marks model) what (length marks)
    (λ e a. start_of-started marks model ∙ fits model e a)

-- ---- what a state says

-- a mark that passes one test of a model passes another
any-so : (test other : Mark → Bool) (marks : List Mark) → ((mark : Mark) → test mark ≡ true → other mark ≡ true)
    → list_any test marks ≡ true → list_any other marks ≡ true
any-so test other marks so is =
    let found = any-cases test marks is in
    any-among other found.0 marks found.1 (so found.0 found.2)

abort-ends : (marks : List Mark) (id : ℕ) → is_aborted marks id ≡ true → is_ended marks id ≡ true
abort-ends marks id = any-so (aborts id) (ends id) marks so
  where
    so : (mark : Mark) → aborts id mark ≡ true → ends id mark ≡ true
    so (OfModel model what) is =
        let its = and_parts (is_abort what) (id == model) is in
        and_from (is_end what) (id == model) (abort-is_end what its.0) its.1

running-parts : (aborted ended : Bool) (start : Option Shown) → (aborted ≡ true → ended ≡ true)
    → effect.is_unfinished (state_from aborted ended start) ≡ (is_some start && not ended)
running-parts true true None both = refl
running-parts true true (Some shown) both = refl
running-parts true false start both = cc (both refl)
running-parts false true None both = refl
running-parts false true (Some shown) both = refl
running-parts false false None both = refl
running-parts false false (Some shown) both = refl

pub state-runs : (marks : List Mark) (id : ℕ) → effect.is_unfinished (state_of marks id) ≡ is_unfinished marks id
unfolding state_of
state-runs marks id =
    running-parts (is_aborted marks id) (is_ended marks id) (start_of marks id) (abort-ends marks id)
    ∙ ap (λ b. b && not (is_ended marks id)) (start_of-started marks id)

waiting-parts : (aborted ended : Bool) (start : Option Shown) → (aborted ≡ true → ended ≡ true)
    → (ended ≡ true → aborted ≡ false → is_some start ≡ true)
    → effect.is_waiting (state_from aborted ended start) ≡ (not (is_some start) && not ended)
waiting-parts true true None both fits = refl
waiting-parts true true (Some shown) both fits = refl
waiting-parts true false start both fits = cc (both refl)
waiting-parts false true None both fits = cc (fits refl refl)
waiting-parts false true (Some shown) both fits = refl
waiting-parts false false None both fits = refl
waiting-parts false false (Some shown) both fits = refl

pub state-waits : (marks : List Mark) (id : ℕ) → FinishesStarted marks → effect.is_waiting (state_of marks id) ≡ is_waiting marks id
unfolding state_of
state-waits marks id fits =
    waiting-parts (is_aborted marks id) (is_ended marks id) (start_of marks id) (abort-ends marks id)
    (λ e a. start_of-started marks id ∙ fits id e a)
    ∙ ap (λ b. not b && not (is_ended marks id)) (start_of-started marks id)

ended-parts : (aborted ended : Bool) (start : Option Shown) → (aborted ≡ true → ended ≡ true)
    → (ended ≡ true → aborted ≡ false → is_some start ≡ true)
    → effect.is_ended (state_from aborted ended start) ≡ ended
ended-parts true true start both fits = refl
ended-parts true false start both fits = cc (both refl)
ended-parts false true None both fits = cc (fits refl refl)
ended-parts false true (Some shown) both fits = refl
ended-parts false false None both fits = refl
ended-parts false false (Some shown) both fits = refl

pub state-ended : (marks : List Mark) (id : ℕ) → FinishesStarted marks → effect.is_ended (state_of marks id) ≡ is_ended marks id
unfolding state_of
state-ended marks id fits =
    ended-parts (is_aborted marks id) (is_ended marks id) (start_of marks id) (abort-ends marks id)
    (λ e a. start_of-started marks id ∙ fits id e a)

shown-parts : (aborted ended : Bool) (start : Option Shown) → shown_at (state_from aborted ended start) ≡ (if aborted then None else start)
shown-parts true ended start = refl
shown-parts false true None = refl
shown-parts false true (Some shown) = refl
shown-parts false false None = refl
shown-parts false false (Some shown) = refl

pub state-shown : (marks : List Mark) (id : ℕ) → shown_at (state_of marks id) ≡ shown_by marks id
unfolding state_of
state-shown marks id = shown-parts (is_aborted marks id) (is_ended marks id) (start_of marks id)

-- ---- what finished had started

pub finishes-started : (marks : List Mark) (model : ℕ) (what : ModelMark) → FinishesStarted marks
    → (is_end what ≡ true → is_abort what ≡ false → is_started marks model ≡ true)
    → FinishesStarted (marks ++ OfModel model what ∷ [])
finishes-started marks model what fits had id ended alive =
    let mark = OfModel model what in
    let none = or_parts (is_aborted marks id) (aborts id mark) (sym (aborted-more marks mark id) ∙ alive) in
    started-more marks mark id
    ∙ or_left (is_started marks id) (starts id mark)
    (by (is_ended marks id) refl (sym (ended-more marks mark id) ∙ ended) none.0 none.1)
  where
    by : (b : Bool) → is_ended marks id ≡ b → (b || ends id (OfModel model what)) ≡ true → is_aborted marks id ≡ false
        → aborts id (OfModel model what) ≡ false → is_started marks id ≡ true
    by true e now alive no_abort = fits id e alive
    by false e now alive no_abort =
        let same = says-model is_end id (OfModel model what) now in
        ap (is_started marks) same
        ∙ had (says-what is_end id model what now)
        (sym (says-own is_abort model what) ∙ ap (λ (n : ℕ). aborts n (OfModel model what)) (sym same) ∙ no_abort)

-- what is shown of a model is in range
pub shown-within : (marks : List Mark) (id : ℕ) → StartsAreWithin marks → IfSome (shown_by marks id) (λ s. unsigned_abs s.start ≤ LAST_TIME)
shown-within marks id within = either (is_aborted marks id) (start_of marks id) (start_within marks id within)
  where
    either : (b : Bool) (o : Option Shown) → IfSome o (λ s. unsigned_abs s.start ≤ LAST_TIME) → IfSome (if b then None else o) (λ s. unsigned_abs s.start ≤ LAST_TIME)
    either true o in_range = tt
    either false o in_range = in_range

-- a running model started
pub running-started : (marks : List Mark) (id : ℕ) → is_unfinished marks id ≡ true → is_started marks id ≡ true
running-started marks id runs = (and_parts (is_started marks id) (not (is_ended marks id)) runs).0

-- what started stays started
pub started-grows : (marks : List Mark) (mark : Mark) (id : ℕ) → is_started marks id ≡ true → is_started (marks ++ mark ∷ []) id ≡ true
started-grows marks mark id is = started-more marks mark id ∙ or_left (is_started marks id) (starts id mark) is

-- an end of another model leaves what started and what ended
pub abort-elsewhere : (marks : List Mark) (b : Bool) (model commit id : ℕ) → id ≢ model
    → (is_started (marks ++ mark_if b (OfModel model (Aborted commit))) id ≡ is_started marks id)
    × (is_ended (marks ++ mark_if b (OfModel model (Aborted commit))) id ≡ is_ended marks id)
abort-elsewhere marks true model commit id other = (
  started-more marks (OfModel model (Aborted commit)) id ∙ or-false (is_started marks id),
  ended-more marks (OfModel model (Aborted commit)) id ∙ ap (λ b. is_ended marks id || b) (ne_eqb id model other) ∙ or-false (is_ended marks id),
)
abort-elsewhere marks false model commit id other = (ap (λ (l : List Mark). is_started l id) (append-nil marks), ap (λ (l : List Mark). is_ended l id) (append-nil marks))

-- what a mark says of a model is a mark about it
says-about : (test : ModelMark → Bool) (id : ℕ) (mark : Mark) → says test id mark ≡ true → is_about id mark ≡ true
says-about test id (OfModel model what) is = (and_parts (test what) (id == model) is).1

-- so a model that started or ended has a mark
pub started-marked : (marks : List Mark) (id : ℕ) → is_started marks id ≡ true → has_mark marks id ≡ true
started-marked marks id = any-so (starts id) (is_about id) marks (says-about is_start id)

pub ended-marked : (marks : List Mark) (id : ℕ) → is_ended marks id ≡ true → has_mark marks id ≡ true
ended-marked marks id = any-so (ends id) (is_about id) marks (says-about is_end id)

-- and of one that has none they say nothing
unmarked : (test : ModelMark → Bool) (marks : List Mark) (id : ℕ) → has_mark marks id ≡ false → list_any (says test id) marks ≡ false
unmarked test marks id none =
    any-none (says test id) marks
    (λ mark among is. true≢false (sym (any-among (is_about id) mark marks among (says-about test id mark is)) ∙ none))

waiting-from : (aborted ended : Bool) (start : Option Shown) → aborted ≡ false → is_some start ≡ false → state_from aborted ended start ≡ state.Waiting
waiting-from true ended start alive none = cc
waiting-from false ended None alive none = refl
waiting-from false ended (Some shown) alive none = cc

pub unmarked-waits : (marks : List Mark) (id : ℕ) → has_mark marks id ≡ false → state_of marks id ≡ state.Waiting
unfolding state_of
unmarked-waits marks id none =
    waiting-from (is_aborted marks id) (is_ended marks id) (start_of marks id) (unmarked is_abort marks id none)
    (start_of-started marks id ∙ unmarked is_start marks id none)

-- a model of a commit that follows waits where it is not in the active one
pub follows-waits : (active pending : TreeLists) (marks : List Mark) → Follows active pending marks
    → (model : Spec) → IsAmong model pending.models → is_among active.models model.id ≡ false → state_of marks model.id ≡ state.Waiting
follows-waits active pending marks follows model among gone = either (has_mark marks model.id) refl
  where
    either : (b : Bool) → has_mark marks model.id ≡ b → state_of marks model.id ≡ state.Waiting
    either false none = unmarked-waits marks model.id none
    either true some =
        let there : is_among active.models model.id ≡ true = among-has model active.models (follows.marked model among some) in
        cc

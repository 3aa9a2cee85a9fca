-- There are at most two events a model.
use Rattle.std.proofs.Common.{◌≡◌, ℕ, ◌+◌, ◌*◌, ◌≤◌, ◌==◌, Bool, true, false, not, ◌||◌, cond, List, [], ◌∷◌, length, filter, refl, sym, ◌∙◌, inl, arith}
use Rattle.std.specs.Prelude.{count_by}
use Rattle.std.proofs.lemmas.Bool.{false≢true, eqb-true, eq-eqb, not-true}
use Rattle.std.proofs.lemmas.List.Filters.{length-filter_both}
use Rattle.std.proofs.lemmas.List.Sums.{length-filter, sum_by-cons}
use Rattle.anim_names.specs.declared.lane.Lane.{Lane}
use Rattle.run_rules.specs.declared.mark.Mark.{Mark}
use Rattle.run_rules.specs.declared.mark.Mark.TheVariants.{OfModel}
use Rattle.tree_commit.specs.Edits.{is_in}
use Rattle.run_rules.specs.Marks.{model_of, is_about}
use Rattle.run_rules.specs.Scripts.{ScriptLists, IsWellFormed, book_of, event_room}
use Rattle.run_rules.specs.Runs.{Lanes, beginning, after}
use Rattle.run_rules.proofs.MarkLemmas.{about-own}
use Rattle.anim_names.specs.Lists.{IsAmong}
use Rattle.run_laws.specs.Numbers.{EventsAreFew}
use Rattle.tree_commit.proofs.Among.{among-filter, any-among}
use Rattle.run_laws.proofs.EndLaws.{models_end_once}
use Rattle.run_laws.proofs.FollowLaws.{known_were_added}

abbrev weight : Bool → ℕ
weight passes = cond passes 1 0

-- a filter raises no count
count-filter : {A : Type 0} (p q : A → Bool) (xs : List A) → count_by p (filter q xs) ≤ count_by p xs
count-filter p q [] = omega arith
count-filter {A} p q (x ∷ xs) = go (q x) (count-filter p q xs)
  where
    go : (kept : Bool) → count_by p (filter q xs) ≤ count_by p xs → count_by p (cond kept (x ∷ filter q xs) (filter q xs)) ≤ count_by p (x ∷ xs)
    go true rest =
        let one : count_by p (x ∷ filter q xs) ≡ weight (p x) + count_by p (filter q xs) = sum_by-cons (λ y. cond (p y) 1 0) x (filter q xs) in
        let other : count_by p (x ∷ xs) ≡ weight (p x) + count_by p xs = sum_by-cons (λ y. cond (p y) 1 0) x xs in
        omega (arith, one, other, rest)
    go false rest =
        let other : count_by p (x ∷ xs) ≡ weight (p x) + count_by p xs = sum_by-cons (λ y. cond (p y) 1 0) x xs in
        omega (arith, other, rest)

-- where each mark is about one of the ids, and no id has more than two marks, there are at most twice as many as ids
few : (ids : List ℕ) (marks : List Mark) → ((mark : Mark) → IsAmong mark marks → is_in (model_of mark) ids ≡ true) → ((id : ℕ) → count_by (is_about id) marks ≤ 2) → length marks ≤ 2 * length ids
few [] [] known two = omega arith
few [] (mark ∷ marks) known two = absurd (false≢true (known mark (inl refl)))
few (id ∷ ids) marks known two =
    let split = length-filter_both (is_about id) (λ mark. not (is_about id mark)) (λ mark. refl) marks in
    let own = length-filter (is_about id) marks in
    let rest = few ids others (λ mark a. still mark (among-filter (λ mark. not (is_about id mark)) mark marks a)) (λ other. omega (arith, count-filter (is_about other) (λ mark. not (is_about id mark)) marks, two other)) in
    omega (arith, split, own, rest, two id)
  where
    others : List Mark
    others = filter (λ mark. not (is_about id mark)) marks

    still : (mark : Mark) → IsAmong mark marks × (not (is_about id mark) ≡ true) → is_in (model_of mark) ids ≡ true
    still (OfModel model what) (a, apart) = go (model == id) refl (known (OfModel model what) a)
      where
        go : (here : Bool) → (model == id) ≡ here → (here || is_in model ids) ≡ true → is_in model ids ≡ true
        go true e h = absurd (false≢true (sym (not-true _ apart) ∙ eq-eqb id model (sym (eqb-true model id e))))
        go false e h = h

pub events_are_few : (script : ScriptLists) → IsWellFormed script → (word : List Lane) → EventsAreFew script (after (beginning script) word)
events_are_few script well word =
    let lanes : Lanes = after (beginning script) word in
    let known = known_were_added script well word in
    let most : length lanes.compositor.marks ≤ event_room script =
    few (book_of script.main).models lanes.compositor.marks
    (λ mark a. known.added (model_of mark) (inl (any-among (is_about (model_of mark)) mark lanes.compositor.marks a (about-own mark))))
    (models_end_once script well word).two_marks in
    record { two_each = most; fit = omega (arith, most, known.limit) }

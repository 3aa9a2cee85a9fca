-- The pending commit follows the active one.
use Rattle.std.proofs.Common.{◌≡◌, ℕ, ◌==◌, Bool, true, false, ◌||◌, cond, Option, Some, None, List, [], ◌∷◌, ◌++◌, refl, sym, ap, ◌∙◌, subst, inl, inr, arith}
use Rattle.std.specs.Prelude.{IsTrue, IfSome, IsSomeAnd, find, option_map, unwrap_or}
use Rattle.std.specs.List.{list_any}
use Rattle.std.proofs.lemmas.Bool.{false≢true, eqb-true}
use Rattle.anim_names.specs.declared.lane.Lane.{Lane}
use Rattle.anim_names.specs.Lists.{BeginsWith}
use Rattle.run_rules.specs.declared.mark.Mark.{Mark}
use Rattle.tree_commit.specs.Trees.{TreeLists, Committed, has_model, origin_of}
use Rattle.tree_commit.specs.Tables.{has_timeline}
use Rattle.run_rules.specs.Marks.{starts_in, is_about}
use Rattle.tree_commit.specs.Edits.{new_book, is_in}
use Rattle.run_rules.specs.Scripts.{ScriptLists, IsWellFormed, book_of}
use Rattle.run_rules.specs.Runs.{Lanes, beginning, after}
use Rattle.run_rules.specs.Follows.{Follows}
use Rattle.run_rules.proofs.MarkLemmas.{about-model}
use Rattle.run_laws.specs.Follows.{PendingFollows, IsKnownAt, KnownWereAdded}
use Rattle.tree_commit.proofs.Among.{any-cases}
use Rattle.run_laws.proofs.Births.{Birth, birth, births, AreOfOneScript}
use Rattle.run_laws.proofs.Lines.{FitsBirths, Precedes}
use Rattle.run_laws.proofs.MarkFacts.{any-more}
use Rattle.run_laws.proofs.MarksFit.{MarksFitBirths, about-id, model_there}
use Rattle.run_laws.proofs.ActivationFits.{marked-stays, group-stays}
use Rattle.run_laws.proofs.RunFits.{RunFits, IsPendingOf, run_fits, one_script, active_fits, active_precedes}
use Rattle.run_laws.proofs.AddedModels.{born_added, room_steps, distinct_within}

find-more : {A : Type 0} (p : A → Bool) (xs ys : List A) → list_any p xs ≡ true → find p (xs ++ ys) ≡ find p xs
find-more p [] ys h = absurd (false≢true h)
find-more {A} p (x ∷ xs) ys h = go (p x) refl (find-more p xs ys) h
  where
    go : (here : Bool) → p x ≡ here → (list_any p xs ≡ true → find p (xs ++ ys) ≡ find p xs) → (here || list_any p xs) ≡ true → cond here (Some x) (find p (xs ++ ys)) ≡ cond here (Some x) (find p xs)
    go true e rest h = refl
    go false e rest h = rest h

timelines_follow : (active new : TreeLists) → BeginsWith new.timelines active.timelines → (id : ℕ) → has_timeline active id ≡ true → (has_timeline new id ≡ true) × (origin_of new id ≡ origin_of active id)
timelines_follow active new (others, e) id h = (
  subst (λ clocks. list_any (λ clock. id == clock.id) clocks ≡ true) (sym e) (any-more (λ clock. id == clock.id) active.timelines others h),
  ap (λ clocks. unwrap_or (option_map (λ clock. clock.origin) (find (λ clock. id == clock.id) clocks)) 0) e
      ∙ ap (λ found. unwrap_or (option_map (λ clock. clock.origin) found) 0) (find-more (λ clock. id == clock.id) active.timelines others h),
)

follows : (born : List Birth) (active new : Committed) (marks : List Mark) → AreOfOneScript born → FitsBirths born active → FitsBirths born new → Precedes born active new → MarksFitBirths born active marks → Follows active.tree new.tree marks
follows born active new marks script old fits goes h = record {
  one_model = λ model twin a b same.
      let one = old.born_before model a in
      let two = fits.born_before twin b in
      ap (λ birth. birth.model) (script.one (birth model one.0) (birth twin two.0) one.1 two.1 same);
  marked = λ model a marked.
      let found = any-cases (is_about model.id) marks marked in
      marked-stays born active new found.0 model script fits goes (h.of_births found.0 found.1) a (sym (about-model model.id found.0 found.2));
  group_there = λ model a has.
      let found = any-cases (λ other. model.group == other.group) active.tree.models has in
      let first = old.born_before found.0 found.1 in
      let second = fits.born_before model a in
      let mates = script.mates (birth found.0 first.0) (birth model second.0) first.1 second.1 (sym (eqb-true model.group found.0.group found.2)) in
      let when : second.0 ≡ first.0 = mates.before in
      goes.stays model second.0 a second.1 (omega (arith, when, first.2));
  group_started = λ model a started.
      let found = any-cases (starts_in model.group) marks started in
      group-stays born active new found.0 model script fits goes (h.of_births found.0 found.1) a found.2;
  groups_agree = λ model mate a b same.
      let one = fits.born_before model a in
      let two = fits.born_before mate b in
      let mates = script.mates (birth mate two.0) (birth model one.0) two.1 one.1 (sym same) in
      record { element = mates.element; timeline = mates.timeline; start = mates.start; property = mates.property };
  timelines = timelines_follow active.tree new.tree goes.timelines;
}

pub pending_follows : (script : ScriptLists) → IsWellFormed script → (word : List Lane) → PendingFollows (after (beginning script) word)
pending_follows script well word = go lanes.compositor.pending fits.compositor.pending
  where
    lanes : Lanes
    lanes = after (beginning script) word

    fits : RunFits script lanes
    fits = run_fits script well word

    go : (pending : Option Committed) → IfSome pending (IsPendingOf lanes.main.commits lanes.compositor) → IfSome pending (λ pending. Follows lanes.compositor.active.tree pending.tree lanes.compositor.marks)
    go None is = tt
    go (Some pending) is =
        follows (births 0 script.main) lanes.compositor.active pending lanes.compositor.marks (one_script script well)
        (active_fits (births 0 script.main) fits.book lanes.main lanes.compositor.active fits.main fits.compositor.active) (fits.main.fits pending is.0)
        (active_precedes (births 0 script.main) fits.book lanes.main lanes.compositor pending fits.main fits.compositor is) fits.compositor.marks

-- ---- known models

known_added : (script : ScriptLists) (well : IsWellFormed script) (word : List Lane) (id : ℕ) → IsKnownAt (after (beginning script) word) id → is_in id (book_of script.main).models ≡ true
known_added script well word id known = go known
  where
    lanes : Lanes
    lanes = after (beginning script) word

    fits : RunFits script lanes
    fits = run_fits script well word

    of_commit : (commit : Committed) → FitsBirths (births 0 script.main) commit → has_model commit.tree id ≡ true → is_in id (book_of script.main).models ≡ true
    of_commit commit h has =
        let found = model_there commit.tree id has in
        let when = h.born_before found.0 found.1 in
        subst (λ i. is_in i (book_of script.main).models ≡ true) (sym found.2) (born_added new_book script.main (birth found.0 when.0) when.1)

    pending : (commit : Option Committed) → IfSome commit (IsPendingOf lanes.main.commits lanes.compositor) → IsSomeAnd commit (λ pending. IsTrue (has_model pending.tree id)) → is_in id (book_of script.main).models ≡ true
    pending None is has = absurd has
    pending (Some commit) is has = of_commit commit (fits.main.fits commit is.0) has

    go : IsKnownAt lanes id → is_in id (book_of script.main).models ≡ true
    go (inl marked) =
        let found = any-cases (is_about id) lanes.compositor.marks marked in
        let whose = fits.compositor.marks.of_births found.0 found.1 in
        let same : id ≡ whose.model.id = about-model id found.0 found.2 ∙ about-id whose.model found.0 whose.about in
        subst (λ i. is_in i (book_of script.main).models ≡ true) (sym same) (born_added new_book script.main (birth whose.model whose.before) whose.among)
    go (inr (inl has)) = of_commit lanes.compositor.active (active_fits (births 0 script.main) fits.book lanes.main lanes.compositor.active fits.main fits.compositor.active) has
    go (inr (inr has)) = pending lanes.compositor.pending fits.compositor.pending has

pub known_were_added : (script : ScriptLists) → IsWellFormed script → (word : List Lane) → KnownWereAdded script (after (beginning script) word)
known_were_added script well word = record {
  added = known_added script well word;
  at_most = λ ids distinct known. distinct_within ids (book_of script.main).models distinct (λ id a. known_added script well word id (known id a));
  limit = room_steps new_book script.main well.edits (omega arith);
}

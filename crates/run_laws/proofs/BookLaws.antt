-- The book of main's steps so far, and what a lane has learnt.
use Rattle.std.proofs.Common.{◌≡◌, ℕ, zero, suc, List, [], ◌∷◌, ◌++◌, take, drop, map, refl, sym, ap, ◌∙◌, subst, append_assoc}
use Rattle.std.specs.Prelude.{IsTrue, IfSome, Option, Some, None}
use Rattle.std.proofs.lemmas.List.{append_cancel_right, map-append}
use Rattle.std.proofs.lemmas.List.Sums.{fold-append}
use Rattle.anim_names.specs.declared.lane.Lane.{Lane}
use Rattle.anim_names.specs.declared.lane.Lane.TheVariants.{Main, Compositor}
use Rattle.anim_names.specs.Lanes.{letters_of}
use Rattle.run_rules.specs.declared.mark.Mark.{Mark}
use Rattle.tree_commit.specs.Trees.{Committed, empty_commit}
use Rattle.tree_commit.specs.Tables.{has_timeline}
use Rattle.run_rules.specs.Marks.{event_of}
use Rattle.tree_commit.specs.Edits.{Book, new_book, is_in}
use Rattle.run_rules.specs.Scripts.{ScriptLists, StepOfMain, EditStep, CommitStep, DrainStep, IsWellFormed, book_of, book_after_step}
use Rattle.run_rules.specs.Runs.{Lanes, MainLane, beginning, after_letter, after, main_takes, main_step, after_drain}
use Rattle.anim_names.specs.Lists.{IsAmong}
use Rattle.run_laws.specs.Growth.{CommitsOnlyGrow, LearntStays}
use Rattle.run_laws.specs.MainTree.{BookGoesWithTree}
use Rattle.tree_commit.proofs.Among.{among-append_left}
use Rattle.run_laws.proofs.Births.{Birth, births, AreOfOneScript}
use Rattle.run_laws.proofs.MainLemmas.{MainFits}
use Rattle.run_laws.proofs.MainSteps.{main_fits_after}
use Rattle.run_laws.proofs.RunFits.{RunFits, IsPendingOf, run_fits, one_script, begins_main, letter_commits}
use Rattle.run_laws.proofs.CountLaws.{main-left}
use Rattle.run_laws.proofs.TreeLaws.{all-from_among}
use Rattle.run_laws.proofs.HearingLemmas.{heard_first}
use Rattle.run_laws.proofs.WordLemmas.{goes_on_same, goes_on_trans, word_grows}

-- ---- commits only grow

pub commits_only_grow : (lanes : Lanes) (word : List Lane) → CommitsOnlyGrow lanes word
unfolding after
commits_only_grow lanes [] = goes_on_same lanes.main.commits
commits_only_grow lanes (letter ∷ word) = goes_on_trans _ _ _ (letter_commits lanes letter) (commits_only_grow (after_letter lanes letter) word)

-- ---- the book of the steps so far

take-drop : {A : Type 0} (n : ℕ) (xs : List A) → take n xs ++ drop n xs ≡ xs
take-drop zero xs = refl
take-drop (suc n) [] = refl
take-drop (suc n) (x ∷ xs) = ap (λ l. x ∷ l) (take-drop n xs)

-- main has made some of the script's steps, and its lane fits the book of these
record HasMade (script : ScriptLists) (lane : MainLane) : Type 0 where
  made : List StepOfMain
  steps : script.main ≡ made ++ lane.left
  fits : MainFits (births 0 script.main) (book_of made) lane

makes_next : (script : ScriptLists) (marks : List Mark) (left : List StepOfMain) (lane : MainLane) → AreOfOneScript (births 0 script.main) → lane.left ≡ left → HasMade script lane → HasMade script (main_takes marks left lane)
unfolding after_drain
makes_next script marks [] lane one e h = h
makes_next script marks (step ∷ left) lane one e h = record {
  made = h.made ++ step ∷ [];
  steps = h.steps ∙ ap (λ l. h.made ++ l) e ∙ sym (append_assoc h.made (step ∷ []) left) ∙ ap (λ l. (h.made ++ step ∷ []) ++ l) (sym (left_after step));
  fits = subst (λ book. MainFits (births 0 script.main) book (main_takes marks (step ∷ left) lane)) (sym (fold-append book_after_step new_book h.made (step ∷ []))) (main_fits_after (births 0 script.main) (book_of h.made) marks (step ∷ left) lane one e h.fits);
}
  where
    left_after : (step : StepOfMain) → (main_takes marks (step ∷ left) lane).left ≡ left
    left_after (EditStep change) = refl
    left_after CommitStep = refl
    left_after DrainStep = refl

has_made : (script : ScriptLists) (lanes : Lanes) (word : List Lane) → AreOfOneScript (births 0 script.main) → HasMade script lanes.main → HasMade script (after lanes word).main
unfolding after main_step
has_made script lanes [] one h = h
has_made script lanes (Main ∷ word) one h = has_made script (after_letter lanes Main) word one (makes_next script lanes.compositor.marks lanes.main.left lanes.main one refl h)
has_made script lanes (Compositor ∷ word) one h = has_made script (after_letter lanes Compositor) word one h

book_goes : (book : Book) (lane : MainLane) (born : List Birth) → MainFits born book lane → BookGoesWithTree book lane.tree
book_goes book lane born h = record {
  elements = h.together.elements;
  timelines = h.together.timelines;
  models_added = all-from_among (λ model. IsTrue (is_in model.id book.models)) lane.tree.models h.together.models;
  timelines_there = all-from_among (λ model. IsTrue (has_timeline lane.tree model.timeline)) lane.tree.models h.now.timelines;
}

pub book_goes_with_tree : (script : ScriptLists) → IsWellFormed script → (word : List Lane) → BookGoesWithTree (book_of (take (letters_of Main word) script.main)) (after (beginning script) word).main.tree
book_goes_with_tree script well word =
    let first : HasMade script (beginning script).main = record { made = []; steps = refl; fits = begins_main script well } in
    let h = has_made script (beginning script) word (one_script script well) first in
    let left = main-left (beginning script) word in
    let same : h.made ≡ take (letters_of Main word) script.main =
    append_cancel_right h.made (take (letters_of Main word) script.main) (drop (letters_of Main word) script.main)
    (ap (λ l. h.made ++ l) (sym left) ∙ sym h.steps ∙ sym (take-drop (letters_of Main word) script.main)) in
    subst (λ steps. BookGoesWithTree (book_of steps) (after (beginning script) word).main.tree) same (book_goes (book_of h.made) (after (beginning script) word).main (births 0 script.main) h.fits)

-- ---- what a lane has learnt

pub learnt_stays : (script : ScriptLists) → IsWellFormed script → (word longer : List Lane) → LearntStays (after (beginning script) word) (after (after (beginning script) word) longer)
learnt_stays script well word longer = record {
  heard =
      let more = word_grows lanes longer in
      goes_on_trans lanes.main.heard (map event_of lanes.compositor.marks) _ (heard_first script word)
      (map event_of more.0, ap (map event_of) more.1 ∙ map-append event_of lanes.compositor.marks more.0);
  active = subst (λ commits. IsAmong lanes.compositor.active (empty_commit ∷ commits)) (sym grown.1) (among-append_left lanes.compositor.active (empty_commit ∷ lanes.main.commits) grown.0 fits.compositor.active);
  pending = go lanes.compositor.pending fits.compositor.pending;
}
  where
    lanes : Lanes
    lanes = after (beginning script) word

    fits : RunFits script lanes
    fits = run_fits script well word

    grown : CommitsOnlyGrow lanes longer
    grown = commits_only_grow lanes longer

    go : (pending : Option Committed) → IfSome pending (IsPendingOf lanes.main.commits lanes.compositor) → IfSome pending (λ commit. IsAmong commit (after lanes longer).main.commits)
    go None is = tt
    go (Some commit) is = subst (λ commits. IsAmong commit commits) (sym grown.1) (among-append_left commit lanes.main.commits grown.0 is.0)

-- Laws of main's tree and its commits.
use Rattle.std.proofs.Common.{◌≡◌, ◌==◌, List, [], ◌∷◌, length, refl, sym, ap, subst, ◌⊎◌, inl, inr, arith}
use Rattle.std.specs.Prelude.{IsTrue, All}
use Rattle.std.proofs.lemmas.Bool.{eqb-true}
use Rattle.std.proofs.lemmas.List.Elements.{All-nil, All-cons}
use Rattle.anim_names.specs.declared.lane.Lane.{Lane}
use Rattle.tree_commit.specs.Trees.{Committed, next_commit}
use Rattle.tree_commit.specs.Tables.{has_timeline}
use Rattle.tree_commit.specs.Edits.{Book}
use Rattle.run_rules.specs.Scripts.{ScriptLists, IsWellFormed}
use Rattle.run_rules.specs.Runs.{MainLane, beginning, after}
use Rattle.anim_names.specs.Lists.{IsAmong}
use Rattle.run_laws.specs.MainTree.{line_of, IdsNameOneModel, NoneReturns, NoGroupGrows, CommitsAgreeInGroups, TimelinesStay, IsWithinLimits, MainIsWithinLimits}
use Rattle.tree_commit.proofs.Among.{among-append_cases, any-cases}
use Rattle.run_laws.proofs.Births.{Birth, birth, births, AreOfOneScript}
use Rattle.run_laws.proofs.Lines.{FitsBirths, AreOrdered, ordered-last, ordered-precedes}
use Rattle.run_laws.proofs.BookLemmas.{within_limits}
use Rattle.run_laws.proofs.MainLemmas.{MainFits}
use Rattle.run_laws.proofs.RunFits.{RunFits, run_fits, one_script}

-- ---- elements of lists, by index

pub all-from_among : {A : Type 0} (P : A → Type 0) (xs : List A) → ((x : A) → IsAmong x xs → P x) → All P xs
all-from_among P [] h = All-nil P
all-from_among P (x ∷ xs) h = All-cons P x xs (h x (inl refl)) (all-from_among P xs (λ y a. h y (inr a)))

-- ---- the line of a lane

record IsLine (born : List Birth) (line : List Committed) : Type 0 where
  fits : (commit : Committed) → IsAmong commit line → FitsBirths born commit
  ordered : AreOrdered born line

line_fits : (born : List Birth) (book : Book) (lane : MainLane) → MainFits born book lane → IsLine born (line_of lane)
line_fits born book lane h = record {
  fits = λ commit a. go commit (among-append_cases commit lane.commits (next_commit (length lane.commits) lane.tree ∷ []) a);
  ordered = ordered-last born lane.commits (next_commit (length lane.commits) lane.tree) h.ordered h.before;
}
  where
    go : (commit : Committed) → IsAmong commit lane.commits ⊎ IsAmong commit (next_commit (length lane.commits) lane.tree ∷ []) → FitsBirths born commit
    go commit (inl a) = h.fits commit a
    go commit (inr (inl e)) = subst (λ c. FitsBirths born c) (sym e) h.now
    go commit (inr (inr a)) = absurd a

-- ---- what is so of a line

line_one_model : (born : List Birth) (line : List Committed) → AreOfOneScript born → IsLine born line → IdsNameOneModel line
line_one_model born line script h commit other a b model twin c d same =
    let one = (h.fits commit a).born_before model c in
    let two = (h.fits other b).born_before twin d in
    ap (λ birth. birth.model) (script.one (birth model one.0) (birth twin two.0) one.1 two.1 same)

line_none_returns : (born : List Birth) (line : List Committed) → IsLine born line → NoneReturns line
line_none_returns born line h older middle newer a b c first second model d e =
    let when = (h.fits older a).born_before model d in
    (ordered-precedes born line h.ordered middle newer b c second).stays model when.0 e when.1 (omega (arith, when.2, first))

line_no_group_grows : (born : List Birth) (line : List Committed) → AreOfOneScript born → IsLine born line → NoGroupGrows line
line_no_group_grows born line script h older newer a b under model has c =
    let found = any-cases (λ other. model.group == other.group) older.tree.models has in
    let old = (h.fits older a).born_before found.0 found.1 in
    let new = (h.fits newer b).born_before model c in
    let mates = script.mates (birth found.0 old.0) (birth model new.0) old.1 new.1 (sym (eqb-true model.group found.0.group found.2)) in
    let when : new.0 ≡ old.0 = mates.before in
    (ordered-precedes born line h.ordered older newer a b under).stays model new.0 c new.1 (omega (arith, when, old.2))

line_groups_agree : (born : List Birth) (line : List Committed) → AreOfOneScript born → IsLine born line → CommitsAgreeInGroups line
line_groups_agree born line script h commit other a b model mate c d same =
    let one = (h.fits commit a).born_before model c in
    let two = (h.fits other b).born_before mate d in
    let mates = script.mates (birth mate two.0) (birth model one.0) two.1 one.1 (sym same) in
    record { element = mates.element; timeline = mates.timeline; start = mates.start; property = mates.property }

line_timelines_stay : (born : List Birth) (line : List Committed) → IsLine born line → TimelinesStay line
line_timelines_stay born line h = record {
  go_on = λ older newer a b under. (ordered-precedes born line h.ordered older newer a b under).timelines;
  one_zero = λ commit a clock twin b c same. (h.fits commit a).clocks clock twin b c same;
  there = λ commit a. all-from_among (λ model. IsTrue (has_timeline commit.tree model.timeline)) commit.tree.models (h.fits commit a).timelines;
}

-- ---- along a run

line_at : (script : ScriptLists) → IsWellFormed script → (word : List Lane) → IsLine (births 0 script.main) (line_of (after (beginning script) word).main)
line_at script well word =
    let fits = run_fits script well word in
    line_fits (births 0 script.main) fits.book (after (beginning script) word).main fits.main

pub ids_name_one_model : (script : ScriptLists) → IsWellFormed script → (word : List Lane) → IdsNameOneModel (line_of (after (beginning script) word).main)
ids_name_one_model script well word = line_one_model (births 0 script.main) _ (one_script script well) (line_at script well word)

pub none_returns : (script : ScriptLists) → IsWellFormed script → (word : List Lane) → NoneReturns (line_of (after (beginning script) word).main)
none_returns script well word = line_none_returns (births 0 script.main) _ (line_at script well word)

pub no_group_grows : (script : ScriptLists) → IsWellFormed script → (word : List Lane) → NoGroupGrows (line_of (after (beginning script) word).main)
no_group_grows script well word = line_no_group_grows (births 0 script.main) _ (one_script script well) (line_at script well word)

pub groups_agree : (script : ScriptLists) → IsWellFormed script → (word : List Lane) → CommitsAgreeInGroups (line_of (after (beginning script) word).main)
groups_agree script well word = line_groups_agree (births 0 script.main) _ (one_script script well) (line_at script well word)

pub timelines_stay : (script : ScriptLists) → IsWellFormed script → (word : List Lane) → TimelinesStay (line_of (after (beginning script) word).main)
timelines_stay script well word = line_timelines_stay (births 0 script.main) _ (line_at script well word)

pub main_is_within_limits : (script : ScriptLists) → IsWellFormed script → (word : List Lane) → MainIsWithinLimits (after (beginning script) word).main
main_is_within_limits script well word = record {
  commits = omega (arith, fits.main.count, fits.main.commits_room);
  each = λ commit a. go commit (among-append_cases commit lane.commits (next_commit (length lane.commits) lane.tree ∷ []) a);
}
  where
    lane : MainLane
    lane = (after (beginning script) word).main

    fits : RunFits script (after (beginning script) word)
    fits = run_fits script well word

    go : (commit : Committed) → IsAmong commit lane.commits ⊎ IsAmong commit (next_commit (length lane.commits) lane.tree ∷ []) → IsWithinLimits commit.tree
    go commit (inl a) = fits.main.within commit a
    go commit (inr (inl e)) = subst (λ c. IsWithinLimits c.tree) (sym e) (within_limits fits.book lane.tree fits.main.together)
    go commit (inr (inr a)) = absurd a

-- Each step of main keeps its lane's commits in one line.
use Rattle.std.proofs.Common.{◌≡◌, ℕ, ◌+◌, ◌≤◌, ◌<◌, ◌==◌, nat_lt, Bool, true, false, cond, Option, Some, None, List, [], ◌∷◌, ◌++◌, length, fold, refl, sym, ◌∙◌, subst, ◌⊎◌, inl, inr, arith}
use Rattle.std.specs.Prelude.{is_none}
use Rattle.std.proofs.lemmas.Bool.{and_parts, ltb-true}
use Rattle.std.proofs.lemmas.List.{length-append}
use Rattle.anim_names.specs.declared.limit.TheConstants.{MOST_COMMITS}
use Rattle.anim_names.specs.declared.event.AnimEvent.{AnimEvent}
use Rattle.anim_delegate.specs.Table.{verdict_on, is_retire}
use Rattle.keyframe_model.specs.Models.{Spec}
use Rattle.run_rules.specs.declared.mark.Mark.{Mark}
use Rattle.tree_commit.specs.Trees.{TreeLists, Committed, next_commit, model_with}
use Rattle.tree_commit.specs.Edits.{OnModels, OnTimelines, OnElements, Change, AddTimeline, AddModel, RemoveModel, Book, edit_refusal, book_after, book_after_commit, tree_after, without_model}
use Rattle.run_rules.specs.Scripts.{StepOfMain, EditStep, CommitStep, DrainStep, are_allowed, book_after_step}
use Rattle.run_rules.specs.Runs.{MainLane, tree_after_hearing, tree_after_verdict, model_of_event, after_drain, unheard_events, main_makes, main_takes}
use Rattle.anim_names.specs.Lists.{IsAmong}
use Rattle.run_laws.specs.MainTree.{IsWithinLimits}
use Rattle.tree_commit.proofs.Among.{among-append_cases}
use Rattle.run_laws.proofs.Births.{Birth, birth, births, births_of, AreOfOneScript, commits-edit}
use Rattle.run_laws.proofs.Lines.{FitsBirths, Precedes, IsThin, thin_same, thin_thinner, thin_without, fits_thin, precedes_thin, ordered-last}
use Rattle.run_laws.proofs.BookLemmas.{book_edit, book_thin, within_limits}
use Rattle.run_laws.proofs.MainLemmas.{MainFits, fits-add_model, precedes-add_model, fits-add_timeline, precedes-add_timeline}
use Rattle.run_laws.proofs.WordLemmas.{goes_on_same}

-- ---- edits

-- the tree, as the next commit, is of one line with the commits so far
record IsNext (born : List Birth) (commits : List Committed) (tree : TreeLists) : Type 0 where
  fits : FitsBirths born (next_commit (length commits) tree)
  before : (commit : Committed) → IsAmong commit commits → Precedes born commit (next_commit (length commits) tree)

next-thin : (born : List Birth) (commits : List Committed) (tree thin : TreeLists) → thin.timelines ≡ tree.timelines → IsThin thin.models tree.models → IsNext born commits tree → IsNext born commits thin
next-thin born commits tree thin timelines models h = record {
  fits = fits_thin born (next_commit (length commits) tree) (next_commit (length commits) thin) refl timelines models h.fits;
  before = λ commit a. precedes_thin born commit (next_commit (length commits) tree) (next_commit (length commits) thin) refl timelines models (h.before commit a);
}

next_of : (born : List Birth) (book : Book) (lane : MainLane) → MainFits born book lane → IsNext born lane.commits lane.tree
next_of born book lane h = record { fits = h.now; before = h.before }

next-edit : (born : List Birth) (book : Book) (lane : MainLane) (change : Change) → AreOfOneScript born → MainFits born book lane → is_none (edit_refusal book change) ≡ true → ((b : Birth) → IsAmong b (births_of (length lane.commits) change []) → IsAmong b born) → IsNext born lane.commits (tree_after lane.tree change)
unfolding tree_after
next-edit born book lane (OnElements elements) script h allowed added = next-thin born lane.commits lane.tree _ refl (thin_same lane.tree.models) (next_of born book lane h)
next-edit born book lane (OnTimelines (AddTimeline id origin)) script h allowed added = record {
  fits = fits-add_timeline born book (length lane.commits) lane.tree id origin allowed h.together h.now;
  before = λ commit a. precedes-add_timeline born (length lane.commits) lane.tree id origin commit (h.before commit a);
}
next-edit born book lane (OnModels (AddModel model)) script h allowed added =
    let mine : IsAmong (birth model (length lane.commits)) born = added (birth model (length lane.commits)) (inl refl) in
    record {
      fits = fits-add_model born book (length lane.commits) lane.tree model allowed mine h.together h.now;
      before = λ commit a. precedes-add_model born (length lane.commits) lane.tree model script mine commit (h.numbered commit a).1 (h.before commit a);
    }
next-edit born book lane (OnModels (RemoveModel id)) script h allowed added = next-thin born lane.commits lane.tree _ refl (thin_without (λ model. id == model.id) lane.tree.models) (next_of born book lane h)

-- the births of the steps behind an edit, and that of the edit
births-behind : (n : ℕ) (change : Change) (behind : List Birth) (b : Birth) → IsAmong b behind → IsAmong b (births_of n change behind)
births-behind n (OnElements elements) behind b h = h
births-behind n (OnTimelines timelines) behind b h = h
births-behind n (OnModels (AddModel model)) behind b h = inr h
births-behind n (OnModels (RemoveModel id)) behind b h = h

births-own : (n : ℕ) (change : Change) (behind : List Birth) (b : Birth) → IsAmong b (births_of n change []) → IsAmong b (births_of n change behind)
births-own n (OnElements elements) behind b h = absurd h
births-own n (OnTimelines timelines) behind b h = absurd h
births-own n (OnModels (AddModel model)) behind b (inl e) = inl e
births-own n (OnModels (AddModel model)) behind b (inr h) = absurd h
births-own n (OnModels (RemoveModel id)) behind b h = absurd h

main-edit : (born : List Birth) (book : Book) (marks : List Mark) (change : Change) (left : List StepOfMain) (lane : MainLane) → AreOfOneScript born → lane.left ≡ EditStep change ∷ left → MainFits born book lane → MainFits born (book_after book change) (main_makes marks (EditStep change) (record lane { left = left }))
unfolding are_allowed
main-edit born book marks change left lane script same h =
    let allowed : are_allowed book (EditStep change ∷ left) ≡ true = subst (λ steps. are_allowed book steps ≡ true) same h.allowed in
    let parts : (is_none (edit_refusal book change) ≡ true) × (are_allowed (book_after book change) left ≡ true) = and_parts _ _ allowed in
    let to_come : ((b : Birth) → IsAmong b (births_of book.commits change (births book.commits left)) → IsAmong b born) = subst (λ steps. (b : Birth) → IsAmong b (births book.commits steps) → IsAmong b born) same h.to_come in
    let next = next-edit born book lane change script h parts.0 (λ b a. to_come b (births-own book.commits change (births book.commits left) b (subst (λ n. IsAmong b (births_of n change [])) (sym h.count) a))) in
    record {
      allowed = parts.1;
      to_come = λ b a. to_come b (births-behind book.commits change (births book.commits left) b (subst (λ n. IsAmong b (births n left)) (commits-edit book change) a));
      count = commits-edit book change ∙ h.count;
      commits_room = subst (λ n. n ≤ MOST_COMMITS) (sym (commits-edit book change)) h.commits_room;
      together = book_edit book lane.tree change parts.0 h.together;
      fits = h.fits;
      numbered = h.numbered;
      within = h.within;
      ordered = h.ordered;
      now = next.fits;
      before = next.before;
    }

-- ---- commits

-- the same tree, as a later commit
fits-raised : (born : List Birth) (n m : ℕ) (tree : TreeLists) → n ≤ m → FitsBirths born (next_commit n tree) → FitsBirths born (next_commit m tree)
fits-raised born n m tree more h = record {
  born_before = λ model a. let found = h.born_before model a in (found.0, found.1, omega (arith, found.2, more));
  apart = h.apart;
  timelines = h.timelines;
  clocks = h.clocks;
}

precedes-raised : (born : List Birth) (n m : ℕ) (tree : TreeLists) (older : Committed) → n ≤ m → Precedes born older (next_commit n tree) → Precedes born older (next_commit m tree)
precedes-raised born n m tree older more h = record { number = omega (arith, h.number, more); stays = h.stays; timelines = h.timelines }

precedes-itself : (born : List Birth) (n : ℕ) (tree : TreeLists) → Precedes born (next_commit n tree) (next_commit (n + 1) tree)
precedes-itself born n tree = record {
  number = omega arith;
  stays = λ model before a among under. a;
  timelines = goes_on_same tree.timelines;
}

main-commit : (born : List Birth) (book : Book) (marks : List Mark) (left : List StepOfMain) (lane : MainLane) → lane.left ≡ CommitStep ∷ left → MainFits born book lane → MainFits born (book_after_commit book) (main_makes marks CommitStep (record lane { left = left }))
unfolding are_allowed
main-commit born book marks left lane same h = record {
  allowed = parts.1;
  to_come = subst (λ steps. (b : Birth) → IsAmong b (births book.commits steps) → IsAmong b born) same h.to_come;
  count = omega (arith, longer, h.count);
  commits_room = omega (arith, ltb-true book.commits MOST_COMMITS parts.0);
  together = record {
    elements = h.together.elements;
    timelines = h.together.timelines;
    models = h.together.models;
    elements_added = h.together.elements_added;
    elements_room = h.together.elements_room;
    models_added = h.together.models_added;
    models_room = h.together.models_room;
    timelines_room = h.together.timelines_room;
  };
  fits = λ commit a. fits commit (among-append_cases commit lane.commits (made ∷ []) a);
  numbered = λ commit a. numbered commit (among-append_cases commit lane.commits (made ∷ []) a);
  within = λ commit a. within commit (among-append_cases commit lane.commits (made ∷ []) a);
  ordered = ordered-last born lane.commits made h.ordered h.before;
  now = subst (λ n. FitsBirths born (next_commit n lane.tree)) (sym longer) (fits-raised born (length lane.commits) (length lane.commits + 1) lane.tree (omega arith) h.now);
  before = λ commit a. subst (λ n. Precedes born commit (next_commit n lane.tree)) (sym longer) (before commit (among-append_cases commit lane.commits (made ∷ []) a));
}
  where
    made : Committed
    made = next_commit (length lane.commits) lane.tree

    longer : length (lane.commits ++ made ∷ []) ≡ length lane.commits + 1
    longer = length-append lane.commits (made ∷ [])

    parts : (nat_lt book.commits MOST_COMMITS ≡ true) × (are_allowed (book_after_commit book) left ≡ true)
    parts = and_parts _ _ (subst (λ steps. are_allowed book steps ≡ true) same h.allowed)

    fits : (commit : Committed) → IsAmong commit lane.commits ⊎ IsAmong commit (made ∷ []) → FitsBirths born commit
    fits commit (inl a) = h.fits commit a
    fits commit (inr (inl e)) = subst (λ c. FitsBirths born c) (sym e) h.now
    fits commit (inr (inr a)) = absurd a

    numbered : (commit : Committed) → IsAmong commit lane.commits ⊎ IsAmong commit (made ∷ []) → (0 < commit.number) × (commit.number ≤ length (lane.commits ++ made ∷ []))
    numbered commit (inl a) = ((h.numbered commit a).0, omega (arith, longer, (h.numbered commit a).1))
    numbered commit (inr (inl e)) = subst (λ c. (0 < c.number) × (c.number ≤ length (lane.commits ++ made ∷ []))) (sym e) (omega arith, omega (arith, longer))
    numbered commit (inr (inr a)) = absurd a

    within : (commit : Committed) → IsAmong commit lane.commits ⊎ IsAmong commit (made ∷ []) → IsWithinLimits commit.tree
    within commit (inl a) = h.within commit a
    within commit (inr (inl e)) = subst (λ c. IsWithinLimits c.tree) (sym e) (within_limits book lane.tree h.together)
    within commit (inr (inr a)) = absurd a

    before : (commit : Committed) → IsAmong commit lane.commits ⊎ IsAmong commit (made ∷ []) → Precedes born commit (next_commit (length lane.commits + 1) lane.tree)
    before commit (inl a) = precedes-raised born (length lane.commits) (length lane.commits + 1) lane.tree commit (omega arith) (h.before commit a)
    before commit (inr (inl e)) = subst (λ c. Precedes born c (next_commit (length lane.commits + 1) lane.tree)) (sym e) (precedes-itself born (length lane.commits) lane.tree)
    before commit (inr (inr a)) = absurd a

-- ---- drains

-- main's tree with fewer models
pub record IsThinTree (thin tree : TreeLists) : Type 0 where
  pub elements : thin.elements ≡ tree.elements
  pub timelines : thin.timelines ≡ tree.timelines
  pub models : IsThin thin.models tree.models

thin-verdict : (tree : TreeLists) (event : AnimEvent) (found : Option Spec) → IsThinTree (tree_after_verdict tree event found) tree
thin-verdict tree event None = record { elements = refl; timelines = refl; models = thin_same tree.models }
thin-verdict tree event (Some model) = go (is_retire (verdict_on model.policy event))
  where
    go : (retired : Bool) → IsThinTree (cond retired (without_model tree model.id) tree) tree
    go true = record { elements = refl; timelines = refl; models = thin_without (λ other. model.id == other.id) tree.models }
    go false = record { elements = refl; timelines = refl; models = thin_same tree.models }

pub thin-heard : (tree : TreeLists) (events : List AnimEvent) → IsThinTree (fold tree_after_hearing tree events) tree
unfolding tree_after_hearing
thin-heard tree [] = record { elements = refl; timelines = refl; models = thin_same tree.models }
thin-heard tree (event ∷ events) =
    let first = thin-verdict tree event (model_with tree (model_of_event event)) in
    let rest = thin-heard (tree_after_hearing tree event) events in
    record {
      elements = rest.elements ∙ first.elements;
      timelines = rest.timelines ∙ first.timelines;
      models = thin_thinner _ _ _ first.models rest.models;
    }

main-drain : (born : List Birth) (book : Book) (marks : List Mark) (left : List StepOfMain) (lane : MainLane) → lane.left ≡ DrainStep ∷ left → MainFits born book lane → MainFits born book (main_makes marks DrainStep (record lane { left = left }))
unfolding are_allowed after_drain
main-drain born book marks left lane same h =
    let thin = thin-heard lane.tree (unheard_events marks lane) in
    let next = next-thin born lane.commits lane.tree _ thin.timelines thin.models (next_of born book lane h) in
    record {
      allowed = (and_parts true _ (subst (λ steps. are_allowed book steps ≡ true) same h.allowed)).1;
      to_come = subst (λ steps. (b : Birth) → IsAmong b (births book.commits steps) → IsAmong b born) same h.to_come;
      count = h.count;
      commits_room = h.commits_room;
      together = book_thin book lane.tree _ thin.elements thin.timelines thin.models h.together;
      fits = h.fits;
      numbered = h.numbered;
      within = h.within;
      ordered = h.ordered;
      now = next.fits;
      before = next.before;
    }

-- ---- any step

-- what edits are checked against after the next step
abbrev pub book_after_next : Book → List StepOfMain → Book
book_after_next book [] = book
book_after_next book (step ∷ left) = book_after_step book step

pub main_fits_after : (born : List Birth) (book : Book) (marks : List Mark) (left : List StepOfMain) (lane : MainLane) → AreOfOneScript born → lane.left ≡ left → MainFits born book lane → MainFits born (book_after_next book left) (main_takes marks left lane)
main_fits_after born book marks [] lane script same h = h
main_fits_after born book marks (EditStep change ∷ left) lane script same h = main-edit born book marks change left lane script same h
main_fits_after born book marks (CommitStep ∷ left) lane script same h = main-commit born book marks left lane same h
main_fits_after born book marks (DrainStep ∷ left) lane script same h = main-drain born book marks left lane same h

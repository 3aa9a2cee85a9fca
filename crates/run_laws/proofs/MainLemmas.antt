-- Main's lane along a run: its commits, and the tree as the commit that a commit step would make of it, are of one line.
use Rattle.std.proofs.Common.{◌≡◌, ℕ, ◌+◌, ◌≤◌, ◌<◌, ◌==◌, true, List, [], ◌∷◌, ◌++◌, length, refl, sym, ap, ◌∙◌, subst, ◌⊎◌, inl, inr, arith}
use Rattle.std.specs.Prelude.{is_none}
use Rattle.std.proofs.lemmas.Bool.{false≢true, or_left, eq-eqb}
use Rattle.std.proofs.lemmas.List.Folds.{list_any-append}
use Rattle.anim_names.specs.declared.limit.TheConstants.{MOST_COMMITS}
use Rattle.keyframe_model.specs.Models.{Spec}
use Rattle.tree_commit.specs.Trees.{TreeLists, Clock, Committed, next_commit}
use Rattle.tree_commit.specs.Tables.{has_timeline}
use Rattle.tree_commit.specs.Edits.{OnModels, OnTimelines, AddTimeline, AddModel, Book, is_in, edit_refusal, tree_after}
use Rattle.run_rules.specs.Scripts.{are_allowed}
use Rattle.run_rules.specs.Runs.{MainLane}
use Rattle.anim_names.specs.Lists.{IsAmong}
use Rattle.run_laws.specs.MainTree.{IsWithinLimits}
use Rattle.tree_commit.proofs.Among.{among-append_cases, any-among}
use Rattle.run_laws.proofs.Births.{Birth, birth, births, AreOfOneScript, accepted, not_refused}
use Rattle.run_laws.proofs.Lines.{AreApart, FitsBirths, Precedes, AreOrdered}
use Rattle.run_laws.proofs.BookLemmas.{BookFits, any-map}
use Rattle.run_laws.proofs.WordLemmas.{goes_on_trans}

-- ---- what stays along a run

pub record MainFits (born : List Birth) (book : Book) (lane : MainLane) : Type 0 where
  pub allowed : are_allowed book lane.left ≡ true
  pub to_come : (b : Birth) → IsAmong b (births book.commits lane.left) → IsAmong b born
  pub count : book.commits ≡ length lane.commits
  pub commits_room : book.commits ≤ MOST_COMMITS
  pub together : BookFits book lane.tree
  pub fits : (commit : Committed) → IsAmong commit lane.commits → FitsBirths born commit
  pub numbered : (commit : Committed) → IsAmong commit lane.commits → (0 < commit.number) × (commit.number ≤ length lane.commits)
  pub within : (commit : Committed) → IsAmong commit lane.commits → IsWithinLimits commit.tree
  pub ordered : AreOrdered born lane.commits
  pub now : FitsBirths born (next_commit (length lane.commits) lane.tree)
  pub before : (commit : Committed) → IsAmong commit lane.commits → Precedes born commit (next_commit (length lane.commits) lane.tree)

-- ---- the tree as the next commit, after an edit

apart-last : (models : List Spec) (model : Spec) → AreApart models → ((other : Spec) → IsAmong other models → other.id ≡ model.id → ⊥) → AreApart (models ++ model ∷ [])
apart-last [] model apart new = (λ other h. absurd h, tt)
apart-last (one ∷ models) model apart new = (λ other h same. go other same (among-append_cases other models (model ∷ []) h), apart-last models model apart.1 (λ other h. new other (inr h)))
  where
    go : (other : Spec) → one.id ≡ other.id → IsAmong other models ⊎ IsAmong other (model ∷ []) → ⊥
    go other same (inl h) = apart.0 other h same
    go other same (inr (inl e)) = new one (inl refl) (same ∙ ap (λ m. m.id) e)
    go other same (inr (inr h)) = h

pub fits-add_model : (born : List Birth) (book : Book) (n : ℕ) (tree : TreeLists) (model : Spec) → is_none (edit_refusal book (OnModels (AddModel model))) ≡ true → IsAmong (birth model n) born → BookFits book tree → FitsBirths born (next_commit n tree) → FitsBirths born (next_commit n (tree_after tree (OnModels (AddModel model))))
unfolding tree_after
fits-add_model born book n tree model allowed added fits h = record {
  born_before = λ one a. born_before one (among-append_cases one tree.models (model ∷ []) a);
  apart = apart-last tree.models model h.apart new;
  timelines = λ one a. timelines one (among-append_cases one tree.models (model ∷ []) a);
  clocks = h.clocks;
}
  where
    born_before : (one : Spec) → IsAmong one tree.models ⊎ IsAmong one (model ∷ []) → (before : ℕ) × IsAmong (birth one before) born × (before < n + 1)
    born_before one (inl a) = h.born_before one a
    born_before one (inr (inl e)) = (n, subst (λ m. IsAmong (birth m n) born) (sym e) added, omega arith)
    born_before one (inr (inr a)) = absurd a

    new : (other : Spec) → IsAmong other tree.models → other.id ≡ model.id → ⊥
    new other a same = false≢true (sym (accepted book model allowed).fresh ∙ subst (λ id. is_in id book.models ≡ true) same (fits.models other a))

    there : has_timeline tree model.timeline ≡ true
    there = sym (any-map (λ other. model.timeline == other) (λ clock. clock.id) tree.timelines) ∙ subst (λ ids. is_in model.timeline ids ≡ true) fits.timelines (accepted book model allowed).timeline

    timelines : (one : Spec) → IsAmong one tree.models ⊎ IsAmong one (model ∷ []) → has_timeline tree one.timeline ≡ true
    timelines one (inl a) = h.timelines one a
    timelines one (inr (inl e)) = subst (λ m. has_timeline tree m.timeline ≡ true) (sym e) there
    timelines one (inr (inr a)) = absurd a

pub precedes-add_model : (born : List Birth) (n : ℕ) (tree : TreeLists) (model : Spec) → AreOfOneScript born → IsAmong (birth model n) born → (older : Committed) → older.number ≤ n → Precedes born older (next_commit n tree) → Precedes born older (next_commit n (tree_after tree (OnModels (AddModel model))))
unfolding tree_after
precedes-add_model born n tree model script added older made h = record {
  number = h.number;
  stays = λ one before a among under. go one before among under (among-append_cases one tree.models (model ∷ []) a);
  timelines = h.timelines;
}
  where
    go : (one : Spec) (before : ℕ) → IsAmong (birth one before) born → before < older.number → IsAmong one tree.models ⊎ IsAmong one (model ∷ []) → IsAmong one older.tree.models
    go one before among under (inl a) = h.stays one before a among under
    go one before among under (inr (inl e)) =
        let same : birth one before ≡ birth model n = script.one (birth one before) (birth model n) among added (ap (λ m. m.id) e) in
        let when : before ≡ n = ap (λ b. b.before) same in
        absurd (omega (arith, when, under, made))
    go one before among under (inr (inr a)) = absurd a

pub fits-add_timeline : (born : List Birth) (book : Book) (n : ℕ) (tree : TreeLists) (id origin : ℕ) → is_none (edit_refusal book (OnTimelines (AddTimeline id origin))) ≡ true → BookFits book tree → FitsBirths born (next_commit n tree) → FitsBirths born (next_commit n (tree_after tree (OnTimelines (AddTimeline id origin))))
unfolding tree_after edit_refusal
fits-add_timeline born book n tree id origin allowed fits h = record {
  born_before = h.born_before;
  apart = h.apart;
  timelines = λ model a. list_any-append (λ clock. model.timeline == clock.id) tree.timelines (new ∷ []) ∙ or_left _ _ (h.timelines model a);
  clocks = λ one other a b. clocks one other (among-append_cases one tree.timelines (new ∷ []) a) (among-append_cases other tree.timelines (new ∷ []) b);
}
  where
    new : Clock
    new = record { id = id; origin = origin }

    fresh : (clock : Clock) → IsAmong clock tree.timelines → id ≡ clock.id → ⊥
    fresh clock a same =
        let there = any-among (λ clock. id == clock.id) clock tree.timelines a (eq-eqb id clock.id same) in
        let told = subst (λ ids. is_in id ids ≡ true) (sym fits.timelines) (any-map (λ other. id == other) (λ clock. clock.id) tree.timelines ∙ there) in
        false≢true (sym (not_refused (is_in id book.timelines) _ _ allowed).0 ∙ told)

    clocks : (one other : Clock) → IsAmong one tree.timelines ⊎ IsAmong one (new ∷ []) → IsAmong other tree.timelines ⊎ IsAmong other (new ∷ []) → one.id ≡ other.id → one ≡ other
    clocks one other (inl a) (inl b) same = h.clocks one other a b same
    clocks one other (inl a) (inr (inl f)) same = absurd (fresh one a (sym (same ∙ ap (λ c. c.id) f)))
    clocks one other (inl a) (inr (inr b)) same = absurd b
    clocks one other (inr (inl e)) (inl b) same = absurd (fresh other b (ap (λ c. c.id) (sym e) ∙ same))
    clocks one other (inr (inl e)) (inr (inl f)) same = e ∙ sym f
    clocks one other (inr (inl e)) (inr (inr b)) same = absurd b
    clocks one other (inr (inr a)) b same = absurd a

pub precedes-add_timeline : (born : List Birth) (n : ℕ) (tree : TreeLists) (id origin : ℕ) (older : Committed) → Precedes born older (next_commit n tree) → Precedes born older (next_commit n (tree_after tree (OnTimelines (AddTimeline id origin))))
unfolding tree_after
precedes-add_timeline born n tree id origin older h = record {
  number = h.number;
  stays = h.stays;
  timelines = goes_on_trans _ _ _ h.timelines (record { id = id; origin = origin } ∷ [], refl);
}

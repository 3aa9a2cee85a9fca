-- Hearing events one after the other: what is heard so far, and then all of the rest, is all of them.
use Rattle.std.proofs.Common.{arith, ◌≡◌, ℕ, ◌+◌, ◌<◌, ◌≤◌, if◌then◌else◌, List, ◌∷◌, length, drop, slice_index_or, sym, ap, ◌∙◌}
use Rattle.std.specs.Prelude.{fold}
use Rattle.std.proofs.lemmas.List.{drop_all, drop_more}
use Rattle.anim_names.specs.declared.event.AnimEvent.{AnimEvent}
use Rattle.frame_exchange.specs.Sides.{retired_by}
use Rattle.main_tree.specs.EditedTrees.{EditedTree, after_hearing}
use Rattle.run_rules.specs.Runs.{retires, tree_after_hearing}
use Rattle.tree_commit.specs.Trees.{TreeLists}

-- the event at an index comes first of those from there on
rest : (events : List AnimEvent) (i : ℕ) (event : AnimEvent) → i < length events → event ≡ slice_index_or events i event
    → event ∷ drop (i + 1) events ≡ drop i events
rest events i event within is =
    ap (λ e. e ∷ drop (i + 1) events) is ∙ sym (drop_more events i event within)

-- an event more, with how many models it retired
more : (tree : TreeLists) (event : AnimEvent) (events : List AnimEvent) (retired one : ℕ) → one ≡ (if retires tree event then 1 else 0)
    → retired + one + retired_by (tree_after_hearing tree event) events ≡ retired + retired_by tree (event ∷ events)
unfolding retired_by
more tree event events retired one is =
    let assoc : retired + one + retired_by (tree_after_hearing tree event) events ≡ retired + (one + retired_by (tree_after_hearing tree event) events) = omega arith in
    assoc ∙ ap (λ n. retired + (n + retired_by (tree_after_hearing tree event) events)) is

module _ (before now : EditedTree) (events : List AnimEvent) (i : ℕ) (event : AnimEvent) (within : i < length events)
    (is : event ≡ slice_index_or events i event) (heard : now ≡ after_hearing before event) where
  pub tree-next : fold tree_after_hearing now.tree (drop (i + 1) events) ≡ fold tree_after_hearing before.tree (drop i events)
  tree-next =
      ap (λ t. fold tree_after_hearing t.tree (drop (i + 1) events)) heard
      ∙ ap (fold tree_after_hearing before.tree) (rest events i event within is)

  pub count-next : (retired one : ℕ) → one ≡ (if retires before.tree event then 1 else 0)
      → retired + one + retired_by now.tree (drop (i + 1) events) ≡ retired + retired_by before.tree (drop i events)
  count-next retired one counted =
      ap (λ t. retired + one + retired_by t.tree (drop (i + 1) events)) heard
      ∙ more before.tree event (drop (i + 1) events) retired one counted
      ∙ ap (λ l. retired + retired_by before.tree l) (rest events i event within is)

  pub book-same : now.book ≡ before.book
  book-same = ap (λ t. t.book) heard

-- nothing is left
pub count-last : (tree : TreeLists) (events : List AnimEvent) (i retired all : ℕ) → length events ≤ i
    → retired + retired_by tree (drop i events) ≡ all
    → retired ≡ all
unfolding retired_by
count-last tree events i retired all past so_far =
    let none : retired_by tree (drop i events) ≡ 0 = ap (retired_by tree) (drop_all i events past) in
    omega arith

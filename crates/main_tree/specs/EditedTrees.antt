-- Main's tree with what edits of it are checked against.
use Rattle.std.specs.Prelude.{◌≡◌, ℕ, List, IsTrue, map, All}
use Rattle.std.specs.declared.alloc.Global.{Global}
use Rattle.std.specs.declared.sync.Arc.{Arc}
use Rattle.anim_names.specs.declared.event.AnimEvent.{AnimEvent}
use Rattle.keyframe_model.specs.Models.{Spec}
use Rattle.tree_commit.specs.declared.base.Base.{Base}
use Rattle.tree_commit.specs.Trees.{TreeLists, empty_tree}
use Rattle.tree_commit.specs.Edits.{Change, Book, new_book, is_in, tree_after, book_after, book_after_commit}
use Rattle.run_rules.specs.Runs.{tree_after_hearing}
use Rattle.tree_commit.specs.Tables.{tree_of, HasAllTimelines}

-- ---- the tree and its book

-- the tree, and the book of all edits and commits that were made of it
pub record EditedTree : Type 0 where
  pub tree : TreeLists
  pub book : Book

-- a book, and the tree of these tables, given by their entries in order
abbrev pub edited_tables : Book → List (ℕ × Base) → List (ℕ × Arc Spec Global) → List (ℕ × ℕ) → EditedTree
edited_tables book elements models timelines = record { tree = tree_of elements models timelines; book = book }

-- before any edit
abbrev pub new_tree : EditedTree
new_tree = record { tree = empty_tree; book = new_book }

-- after an edit that was not refused
abbrev pub after_edit : EditedTree → Change → EditedTree
after_edit edited change = record { tree = tree_after edited.tree change; book = book_after edited.book change }

-- after a commit: the tree stays
abbrev pub after_commit : EditedTree → EditedTree
after_commit edited = record edited { book = book_after_commit edited.book }

-- after main has heard an event: the book stays
abbrev pub after_hearing : EditedTree → AnimEvent → EditedTree
after_hearing edited event = record edited { tree = tree_after_hearing edited.tree event }

-- ---- the tree beside its book

-- The tree and its book go together: the book names the elements and the timelines of the tree, in their order, each
-- model of the tree was added, and its timeline is there.
pub record GoesWithBook (edited : EditedTree) : Type 0 where
  pub elements : edited.book.elements ≡ map (λ element. element.id) edited.tree.elements
  pub timelines : edited.book.timelines ≡ map (λ clock. clock.id) edited.tree.timelines
  pub models_added : All (λ model. IsTrue (is_in model.id edited.book.models)) edited.tree.models
  pub timelines_there : HasAllTimelines edited.tree

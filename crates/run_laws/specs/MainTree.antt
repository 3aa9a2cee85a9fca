-- Main's tree and its commits along a run.
use Rattle.std.specs.Prelude.{◌≡◌, ◌≤◌, ◌<◌, IsTrue, List, [], ◌∷◌, ◌++◌, length, map, All}
use Rattle.anim_names.specs.declared.limit.TheConstants.{MOST_COMMITS, MOST_ELEMENTS, MOST_MODELS, MOST_TIMELINES}
use Rattle.anim_names.specs.Lists.{BeginsWith, IsAmong}
use Rattle.keyframe_model.specs.Models.{Spec}
use Rattle.tree_commit.specs.Trees.{TreeLists, Clock, Committed, next_commit, has_group}
use Rattle.tree_commit.specs.Tables.{HasAllTimelines}
use Rattle.tree_commit.specs.Edits.{Book, is_in}
use Rattle.run_rules.specs.Runs.{MainLane}
use Rattle.run_rules.specs.Follows.{AgreeAsGroup}

-- ---- the book

-- The tree and the book of all steps so far go together: the book names the elements and the timelines of the tree, in
-- their order, each model of the tree was added, and its timeline is there.
pub record BookGoesWithTree (book : Book) (tree : TreeLists) : Type 0 where
  pub elements : book.elements ≡ map (λ element. element.id) tree.elements
  pub timelines : book.timelines ≡ map (λ clock. clock.id) tree.timelines
  pub models_added : All (λ model. IsTrue (is_in model.id book.models)) tree.models
  pub timelines_there : HasAllTimelines tree

-- ---- commits

-- main's commits, and last the one that a commit step would make now
abbrev pub line_of : MainLane → List Committed
line_of lane = lane.commits ++ next_commit (length lane.commits) lane.tree ∷ []

-- No two models under one id, in whichever commits they are.
abbrev pub IdsNameOneModel : List Committed → Type 0
IdsNameOneModel line =
    (commit other : Committed) → IsAmong commit line → IsAmong other line
    → (model twin : Spec) → IsAmong model commit.tree.models → IsAmong twin other.tree.models → model.id ≡ twin.id
    → model ≡ twin

-- A model that left a commit is in no later one: one that is in an older and in a newer commit is in each between.
abbrev pub NoneReturns : List Committed → Type 0
NoneReturns line =
    (older middle newer : Committed) → IsAmong older line → IsAmong middle line → IsAmong newer line
    → older.number < middle.number → middle.number < newer.number
    → (model : Spec) → IsAmong model older.tree.models → IsAmong model newer.tree.models
    → IsAmong model middle.tree.models

-- No group grows: where an older commit has a model of a group, it has each that a newer one has of it.
abbrev pub NoGroupGrows : List Committed → Type 0
NoGroupGrows line =
    (older newer : Committed) → IsAmong older line → IsAmong newer line → older.number < newer.number
    → (model : Spec) → IsTrue (has_group older.tree model.group) → IsAmong model newer.tree.models
    → IsAmong model older.tree.models

-- The models of a group agree, in whichever commits they are.
abbrev pub CommitsAgreeInGroups : List Committed → Type 0
CommitsAgreeInGroups line =
    (commit other : Committed) → IsAmong commit line → IsAmong other line
    → (model mate : Spec) → IsAmong model commit.tree.models → IsAmong mate other.tree.models → model.group ≡ mate.group
    → AgreeAsGroup model mate

-- Timelines stay: those of a newer commit begin with those of an older one, and no id has two.
pub record TimelinesStay (line : List Committed) : Type 0 where
  pub go_on :
      (older newer : Committed) → IsAmong older line → IsAmong newer line → older.number < newer.number
      → BeginsWith newer.tree.timelines older.tree.timelines
  pub one_zero :
      (commit : Committed) → IsAmong commit line
      → (clock twin : Clock) → IsAmong clock commit.tree.timelines → IsAmong twin commit.tree.timelines
      → clock.id ≡ twin.id → clock ≡ twin
  pub there : (commit : Committed) → IsAmong commit line → HasAllTimelines commit.tree

-- ---- sizes

-- the tree has no more of anything than a script may ever add
pub record IsWithinLimits (tree : TreeLists) : Type 0 where
  pub elements : length tree.elements ≤ MOST_ELEMENTS
  pub models : length tree.models ≤ MOST_MODELS
  pub timelines : length tree.timelines ≤ MOST_TIMELINES

-- There are no more commits than a script may make, and each of them and the tree is within the limits.
pub record MainIsWithinLimits (lane : MainLane) : Type 0 where
  pub commits : length lane.commits ≤ MOST_COMMITS
  pub each : (commit : Committed) → IsAmong commit (line_of lane) → IsWithinLimits commit.tree

-- What the tests look at in code, of commits and of steps, so that the host may be given the next commit.
use Rattle.std.specs.Prelude.{◌≡◌, Bool, true, false}
use Rattle.keyframe_model.specs.Models.{Spec}
use Rattle.tree_commit.specs.Edits.{Change, OnElements, OnTimelines, OnModels, AddModel, RemoveModel}
use Rattle.run_rules.specs.Follows.{AgreeAsGroup}
use Rattle.anim_names.specs.Lists.{IsAmong}
use Rattle.tree_commit.specs.Trees.{TreeLists}
use Rattle.anim_host.specs.Hosting.{Hosting}

-- the models of a group agree
abbrev pub GroupsAgree : TreeLists → Type 0
GroupsAgree tree =
    (model mate : Spec) → IsAmong model tree.models → IsAmong mate tree.models → model.group ≡ mate.group
    → AgreeAsGroup model mate

-- Nothing but elements is new: each model of the new tree is in the old one, and the timelines are the same.
pub record OnlyElementsAreNew (old new : TreeLists) : Type 0 where
  pub models : (model : Spec) → IsAmong model new.models → IsAmong model old.models
  pub timelines : new.timelines ≡ old.timelines

-- the edit adds an element or nothing
abbrev pub adds_elements_alone : Change → Bool
adds_elements_alone (OnElements change) = true
adds_elements_alone (OnTimelines change) = false
adds_elements_alone (OnModels (AddModel model)) = false
adds_elements_alone (OnModels (RemoveModel id)) = true

-- The host has the same commits, as many models and the news of the same marks behind it.
pub record KeepsCommits (old new : Hosting) : Type 0 where
  pub active : new.active ≡ old.active
  pub pending : new.pending ≡ old.pending
  pub cleared : new.cleared ≡ old.cleared
  pub models : new.models ≡ old.models

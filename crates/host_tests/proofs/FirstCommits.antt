-- A first commit whose groups agree follows the empty one, and there is room for its models.
use Rattle.std.proofs.Common.{◌≡◌, ℕ, suc, ◌≤◌, ◌==◌, ◌||◌, Bool, true, false, List, [], ◌∷◌, length, map, refl, sym, ap, subst, inl, inr, arith}
use Rattle.std.specs.Prelude.{IsTrue}
use Rattle.std.specs.List.{list_any}
use Rattle.std.proofs.lemmas.Bool.{false≢true}
use Rattle.keyframe_model.specs.Models.{Spec}
use Rattle.run_rules.specs.declared.mark.Mark.{Mark}
use Rattle.tree_commit.specs.Edits.{is_in}
use Rattle.tree_commit.specs.Trees.{Committed, TreeLists, empty_commit, empty_tree, has_model}
use Rattle.run_rules.specs.Follows.{Follows, IsKnown, has_mark}
use Rattle.anim_host.specs.Hosting.{HasRoomToPush, Hosting}
use Rattle.run_laws.proofs.AddedModels.{distinct_within}
use Rattle.host_tests.specs.Steps.{GroupsAgree}

follows-empty : (tree : TreeLists) → GroupsAgree tree → Follows empty_tree tree []
follows-empty tree agree = record {
  one_model = λ model twin there other same. absurd there;
  marked = λ model there has. absurd (false≢true has);
  group_there = λ model there has. absurd (false≢true has);
  group_started = λ model there has. absurd (false≢true has);
  groups_agree = agree;
  timelines = λ id there. absurd (false≢true there);
}

pub follows-first : (host : Hosting) (tree : TreeLists) → host.active ≡ empty_commit → host.marks ≡ [] → GroupsAgree tree
    → Follows host.active.tree tree host.marks
follows-first host tree active marks agree =
    subst (λ (a : Committed). Follows a.tree tree host.marks) (sym active)
    (subst (λ (m : List Mark). Follows empty_tree tree m) (sym marks) (follows-empty tree agree))

-- the ids of models
pub ids_of : List Spec → List ℕ
ids_of models = map (λ model. model.id) models

pub ids-length : (models : List Spec) → length (ids_of models) ≡ length models
unfolding ids_of
ids-length [] = refl
ids-length (model ∷ models) = ap suc (ids-length models)

pub ids-have : (models : List Spec) (id : ℕ) → list_any (λ (m : Spec). id == m.id) models ≡ true → is_in id (ids_of models) ≡ true
unfolding ids_of
ids-have [] id h = h
ids-have (model ∷ models) id h = go (id == model.id) h (ids-have models id)
  where
    go : (here : Bool) → (here || list_any (λ (m : Spec). id == m.id) models) ≡ true
        → (list_any (λ (m : Spec). id == m.id) models ≡ true → is_in id (map (λ (m : Spec). m.id) models) ≡ true)
        → (here || is_in id (map (λ (m : Spec). m.id) models)) ≡ true
    go true h rest = refl
    go false h rest = rest h

known-there : (host : Hosting) (commit : Committed) (id : ℕ) → host.active ≡ empty_commit → host.marks ≡ []
    → IsKnown host.active.tree commit.tree host.marks id → has_model commit.tree id ≡ true
known-there host commit id active marks (inl marked) =
    absurd (false≢true (subst (λ (m : List Mark). IsTrue (has_mark m id)) marks marked))
known-there host commit id active marks (inr (inl there)) =
    absurd (false≢true (subst (λ (a : Committed). IsTrue (has_model a.tree id)) active there))
known-there host commit id active marks (inr (inr there)) = there

pub room-first : (host : Hosting) (commit : Committed) → host.active ≡ empty_commit → host.marks ≡ []
    → length commit.tree.models ≤ host.models → HasRoomToPush host commit
room-first host commit active marks room ids distinct known =
    let few = distinct_within ids (ids_of commit.tree.models) distinct
    (λ id among. ids-have commit.tree.models id (known-there host commit id active marks (known id among))) in
    omega (arith, few, ids-length commit.tree.models, room)

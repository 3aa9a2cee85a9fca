-- Hearing an event: what is known of the event's model tells the tree after it.
use Rattle.std.proofs.Common.{◌≡◌, ℕ, ◌==◌, nat_eq, Bool, true, false, cond, if◌then◌else◌, List, [], ◌∷◌, map, Option, Some, None, option_map, find, refl, sym, ap, subst, ◌∙◌, ◌||◌}
use Rattle.std.specs.List.{list_any}
use Rattle.std.specs.Map.{lookup}
use Rattle.std.proofs.lemmas.Bool.{false≢true}
use Rattle.std.specs.declared.alloc.Global.{Global}
use Rattle.std.specs.declared.sync.Arc.{Arc}
use Rattle.anim_names.specs.declared.event.AnimEvent.{AnimEvent}
use Rattle.anim_delegate.specs.declared.policy.Policy.{Policy}
use Rattle.anim_delegate.specs.Table.{verdict_on, is_retire}
use Rattle.keyframe_model.specs.Models.{Spec}
use Rattle.tree_commit.specs.declared.edits.refusal.EditRefusal.TheVariants.{ModelUnknown}
use Rattle.tree_commit.specs.Edits.{OnModels, RemoveModel, book_after, edit_refusal, is_in, tree_after, without_model}
use Rattle.run_rules.specs.Runs.{model_of_event, tree_after_hearing, tree_after_verdict, retires, retires_found}
use Rattle.tree_commit.specs.Tables.{StandUnderOwnIds, spec_of}
use Rattle.tree_commit.specs.Trees.{TreeLists, has_model, model_with}
use Rattle.main_tree.specs.EditedTrees.{EditedTree, GoesWithBook, after_edit, after_hearing}
use Rattle.main_tree.proofs.TableEdits.{absent_model}
use borrow.Author.Tests.{eqb-true}

-- a look-up in the table finds the model that the definition finds
pub find-model : (id : ℕ) (models : List (ℕ × Arc Spec Global)) → StandUnderOwnIds models
    → option_map (λ model. model.value) (lookup (nat_eq id) models) ≡ find (λ model. id == model.id) (map spec_of models)
find-model id [] own = refl
find-model id (e ∷ es) own =
    let own_id : e.0 ≡ (spec_of e).id = cc in
    let others : StandUnderOwnIds es = cc in
    subst (λ k. option_map (λ model. model.value) (lookup (nat_eq id) (e ∷ es)) ≡ (if nat_eq id k then Some (spec_of e) else find (λ model. id == model.id) (map spec_of es))) own_id
    (elim (nat_eq id e.0) as (λ b.
    option_map (λ model. model.value) (cond b (Some e.1) (lookup (nat_eq id) es)) ≡ (if b then Some (spec_of e) else find (λ model. id == model.id) (map spec_of es)))
    [ true ↦ refl | false ↦ find-model id es others ])

-- what is found under an id has it
own_id_of_found : (id : ℕ) (models : List Spec) (model : Spec) → find (λ m. id == m.id) models ≡ Some model → id ≡ model.id
own_id_of_found id [] model = λ found. cc
own_id_of_found id (m ∷ ms) model = by (nat_eq id m.id) refl (own_id_of_found id ms model)
  where
    by : (b : Bool) → nat_eq id m.id ≡ b → (find (λ x. id == x.id) ms ≡ Some model → id ≡ model.id)
        → (if b then Some m else find (λ x. id == x.id) ms) ≡ Some model → id ≡ model.id
    by true same rest = λ found. let is_it : m ≡ model = cc in eqb-true id m.id same ∙ ap (λ x. x.id) is_it
    by false apart rest = rest

-- the tree that an event leaves, where the event's model is there with this policy or is not there
abbrev verdict_leaves : AnimEvent → Option Policy → TreeLists → TreeLists
verdict_leaves event None tree = tree
verdict_leaves event (Some policy) tree = if is_retire (verdict_on policy event) then without_model tree (model_of_event event) else tree

abbrev verdict_retires : AnimEvent → Option Policy → Bool
verdict_retires event None = false
verdict_retires event (Some policy) = is_retire (verdict_on policy event)

-- what the event of a model leaves, by what is found of the model
left_by : (event : AnimEvent) (found : Option Spec) (tree : TreeLists) (policy : Option Policy) → option_map (λ model. model.policy) found ≡ policy
    → ((model : Spec) → found ≡ Some model → model_of_event event ≡ model.id)
    → (tree_after_verdict tree event found ≡ verdict_leaves event policy tree) × (retires_found event found ≡ verdict_retires event policy)
left_by event None tree None is own = (refl, refl)
left_by event None tree (Some policy) is own = cc
left_by event (Some model) tree None is own = cc
left_by event (Some model) tree (Some policy) is own =
    let same : model.policy ≡ policy = cc in (
      subst (λ p. (if is_retire (verdict_on model.policy event) then without_model tree model.id else tree) ≡ (if is_retire (verdict_on p event) then without_model tree (model_of_event event) else tree)) same
          (ap (λ id. if is_retire (verdict_on model.policy event) then without_model tree id else tree) (sym (own model refl))),
      ap (λ p. is_retire (verdict_on p event)) same,
    )

-- A known policy of the event's model, or none, tells the tree after the event, and whether a model is retired.
module _ (edited : EditedTree) (event : AnimEvent) (policy : Option Policy)
    (is : policy ≡ option_map (λ model. model.policy) (model_with edited.tree (model_of_event event))) where
  tree_left : tree_after_hearing edited.tree event ≡ verdict_leaves event policy edited.tree
  unfolding tree_after_hearing
  tree_left =
      (left_by event (model_with edited.tree (model_of_event event)) edited.tree policy (sym is) (own_id_of_found (model_of_event event) edited.tree.models)).0

  pub retired : retires edited.tree event ≡ verdict_retires event policy
  retired =
      (left_by event (model_with edited.tree (model_of_event event)) edited.tree policy (sym is) (own_id_of_found (model_of_event event) edited.tree.models)).1

  pub heard : after_hearing edited event ≡ record { tree = verdict_leaves event policy edited.tree; book = edited.book }
  heard = λ i. record { tree = tree_left i; book = edited.book }

-- a model whose policy is known is there
there : (id : ℕ) (models : List Spec) (policy : Policy) → Some policy ≡ option_map (λ model. model.policy) (find (λ m. id == m.id) models)
    → (list_any (λ m. id == m.id) models ≡ true) × (is_in id (map (λ m. m.id) models) ≡ true)
there id [] policy = λ is. cc
there id (m ∷ ms) policy =
    elim (nat_eq id m.id) as (λ b. Some policy ≡ option_map (λ model. model.policy) (if b then Some m else find (λ x. id == x.id) ms)
    → ((b || list_any (λ x. id == x.id) ms) ≡ true) × ((b || is_in id (map (λ x. x.id) ms)) ≡ true))
    [ true ↦ λ is. (refl, refl) | false ↦ λ is. there id ms policy is ]

pub is_there : (edited : EditedTree) (id : ℕ) (policy : Policy) → Some policy ≡ option_map (λ model. model.policy) (model_with edited.tree id)
    → has_model edited.tree id ≡ true
is_there edited id policy is = (there id edited.tree.models policy is).0

-- and may be removed
pub may_go : (edited : EditedTree) (id : ℕ) (policy : Policy) → GoesWithBook edited → Some policy ≡ option_map (λ model. model.policy) (model_with edited.tree id)
    → edit_refusal edited.book (OnModels (RemoveModel id)) ≡ None
unfolding edit_refusal
may_go edited id policy goes is = by (is_in id edited.book.models) refl
  where
    by : (b : Bool) → is_in id edited.book.models ≡ b → (if b then None else Some ModelUnknown) ≡ None
    by true known = refl
    by false unknown =
        absurd (false≢true (sym (absent_model id edited.book.models edited.tree.models goes.models_added unknown) ∙ (there id edited.tree.models policy is).1))

-- a removal leaves the book as it is
pub removed : (edited : EditedTree) (id : ℕ) → after_edit edited (OnModels (RemoveModel id)) ≡ record { tree = without_model edited.tree id; book = edited.book }
unfolding tree_after book_after
removed edited id = refl

use Rattle.std.proofs.Common.{◌≡◌, ◌++◌, ◌∷◌, [], List, Option, ap, sym, ◌∙◌}
use Rattle.std.specs.Prelude.{unwrap_or}
use Rattle.keyframe_model.specs.Models.{Spec}
use Rattle.active_tree.proofs.ListLemmas.{added-written}
use Rattle.active_tree.proofs.element_models.ElementModels.add_first.Goals as goal

pub returns : goal.returns
returns c =
    let model = c.args.model.now.value in
    let key : c.element.result ≡ model.element = c.element.ensures ∙ ap (λ (m : Spec). m.element) c.deref.ensures in
    let list : c.push.new.self ≡ model ∷ [] = c.in_ok-push.ensures.pushed ∙ ap (λ (l : List Spec). l ++ model ∷ []) c.new-list.ensures in
    let none = ap (λ (o : Option (List Spec)). unwrap_or o [] ++ model ∷ []) c.requires in
    added-written model c.element.result c.push.new.self c.args.self.now c.insert.new.self.entries
    key (list ∙ sym none) (rw c.self.view_is at c.in_ok-insert.ensures.updates.0)

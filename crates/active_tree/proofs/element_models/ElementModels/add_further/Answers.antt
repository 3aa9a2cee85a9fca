use Rattle.std.proofs.Common.{◌≡◌, ◌++◌, ◌∷◌, [], List, Option, Some, nat_eq, IsSome, refl, subst, ap, sym, ◌∙◌}
use Rattle.std.specs.Prelude.{unwrap_or}
use Rattle.std.specs.Map.{lookup}
use Rattle.std.specs.Option.{option_copied_mut}
use Rattle.keyframe_model.specs.Models.{Spec}
use Rattle.active_tree.proofs.ListLemmas.{added-written}
use Rattle.active_tree.proofs.element_models.ElementModels.add_further.Goals as goal

pub returns : goal.returns
returns c =
    let model = c.args.model.now.value in
    let key : c.element.result ≡ model.element = c.element.ensures ∙ ap (λ (m : Spec). m.element) c.deref.ensures in
    let found : lookup (nat_eq c.element.result) c.self.inside.lists.entries ≡ Some c.unwrap-list.result.now =
    sym c.get_mut.ensures.value ∙ ap option_copied_mut c.unwrap-list.ensures in
    let there : IsSome (lookup (nat_eq c.element.result) c.self.inside.lists.entries) = subst IsSome (sym found) refl in
    let was = ap (λ (o : Option (List Spec)). unwrap_or o [] ++ model ∷ []) (sym found) in
    let list = c.in_ok-push.ensures.pushed ∙ was ∙ ap (λ k. unwrap_or (lookup (nat_eq k) c.self.inside.lists.entries) [] ++ model ∷ []) key in
    rw (← c.self.view_is)
    (added-written model c.element.result c.push.new.self c.self.inside.lists.entries (c.get_mut.follows.lender c.push.new.self).entries
    key list ((c.get_mut.follows.holds _).3 there).0)

use Rattle.std.proofs.Common.{Some, option_map, ap, ◌∙◌}
use Rattle.tree_commit.specs.Trees.{model_with}
use Rattle.main_tree.proofs.HearLemmas.{find-model}
use Rattle.main_tree.proofs.tree.MainTree.policy_of.Goals as goal

pub returns-in-None-clause-policy : goal.returns-in-None-clause-policy
returns-in-None-clause-policy c =
    ap (λ found. option_map (λ model. model.policy) (option_map (λ shared. shared.value) found)) c.in-None.ensures.value
    ∙ ap (option_map (λ model. model.policy)) (find-model c.args.id c.self.inside.models.entries c.self.invariant.0)
    ∙ ap (λ e. option_map (λ model. model.policy) (model_with e.tree c.args.id)) c.self.view_is

pub returns-in-Some-clause-policy : goal.returns-in-Some-clause-policy
returns-in-Some-clause-policy c =
    ap Some (c.policy.ensures ∙ ap (λ model. model.policy) c.deref.ensures)
    ∙ ap (λ found. option_map (λ model. model.policy) (option_map (λ shared. shared.value) found)) c.in-Some.ensures.value
    ∙ ap (option_map (λ model. model.policy)) (find-model c.args.id c.self.inside.models.entries c.self.invariant.0)
    ∙ ap (λ e. option_map (λ model. model.policy) (model_with e.tree c.args.id)) c.self.view_is

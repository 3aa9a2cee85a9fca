use Rattle.std.proofs.Common.{Some, None, if◌then◌else◌, sym, ap, ◌∙◌}
use Rattle.anim_delegate.specs.Table.{is_retire}
use Rattle.tree_commit.specs.Edits.{without_model}
use Rattle.run_rules.specs.Runs.{model_of_event}
use Rattle.main_tree.proofs.HearLemmas.{heard, retired, removed, is_there, may_go}
use Rattle.main_tree.proofs.tree.MainTree.hear.Goals as goal

pub remove_model-requires : goal.remove_model-requires
remove_model-requires g c = may_go c.args.self.now c.model_of-id.result c.in-Some.policy c.in-Some.ensures.together c.in-Some.ensures.policy

pub returns-in-None-clause-heard : goal.returns-in-None-clause-heard
returns-in-None-clause-heard g c =
    sym (heard c.args.self.now c.args.event.now None (rw c.model_of-id.ensures at c.in-None.ensures.policy))

pub returns-in-Keep-clause-heard : goal.returns-in-Keep-clause-heard
returns-in-Keep-clause-heard g c =
    let edited = c.args.self.now in
    sym
    (heard edited c.args.event.now (Some c.in-Some.policy) (rw c.model_of-id.ensures at c.in-Some.ensures.policy)
    ∙ ap (λ v. record { tree = if is_retire v then without_model edited.tree (model_of_event c.args.event.now) else edited.tree; book = edited.book }) (sym c.ask.ensures ∙ c.in-Keep.is))

pub returns-in-Retire-clause-heard : goal.returns-in-Retire-clause-heard
returns-in-Retire-clause-heard g c =
    let edited = c.args.self.now in
    c.remove_model.ensures.made
    ∙ rw c.model_of-id.ensures (removed edited (model_of_event c.args.event.now))
    ∙ sym
    (heard edited c.args.event.now (Some c.in-Some.policy) (rw c.model_of-id.ensures at c.in-Some.ensures.policy)
    ∙ ap (λ v. record { tree = if is_retire v then without_model edited.tree (model_of_event c.args.event.now) else edited.tree; book = edited.book }) (sym c.ask.ensures ∙ c.in-Retire.is))

pub returns-in-Retire-clause-retired : goal.returns-in-Retire-clause-retired
returns-in-Retire-clause-retired g c =
    c.remove_model.ensures.found
    ∙ is_there c.args.self.now c.model_of-id.result c.in-Some.policy c.in-Some.ensures.policy
    ∙ sym
    (retired c.args.self.now c.args.event.now (Some c.in-Some.policy) (rw c.model_of-id.ensures at c.in-Some.ensures.policy)
    ∙ ap is_retire (sym c.ask.ensures ∙ c.in-Retire.is))

use Rattle.std.proofs.Common.{ap, sym, ◌∙◌}
use Rattle.std.specs.List.{list_any}
use Rattle.keyframe_model.specs.Models.{Spec}
use Rattle.run_rules.specs.Marks.{is_unfinished}
use Rattle.anim_host.proofs.TellLemmas.{no-members, some-run}
use Rattle.anim_host.proofs.finish.some_run.Goals as goal

pub returns-in-None : goal.returns-in-None
returns-in-None c =
    let models = c.args.standing.now.active.tree.models in
    let marks = c.args.standing.now.list.marks in
    sym (ap (list_any (λ (m : Spec). is_unfinished marks m.id)) (no-members models marks c.args.group (sym c.group_row.ensures ∙ c.in-None.is)))

pub returns-in-Some : goal.returns-in-Some
returns-in-Some c =
    some-run c.args.standing.now.active.tree.models c.args.standing.now.list.marks c.args.group c.in-Some.row (sym c.group_row.ensures ∙ c.in-Some.is)

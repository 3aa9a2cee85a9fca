use Rattle.std.proofs.Common.{◌≡◌, Bool, not, ap, sym, ◌∙◌}
use Rattle.std.specs.Prelude.{◌==◌, ◌&&◌, nat_lt}
use Rattle.std.specs.List.{list_any}
use Rattle.keyframe_model.specs.Models.{Spec}
use Rattle.keyframe_effect.specs.Groups.{one_if}
use Rattle.run_rules.specs.Marks.{is_unfinished}
use Rattle.tree_commit.specs.Trees.{has_model}
use Rattle.tree_commit.proofs.Among.{among-has}
use Rattle.host_tables.specs.Groups.{group_row_of}
use Rattle.anim_host.proofs.TellLemmas.{no-members, others-run}
use Rattle.anim_host.proofs.ends.others_run.Goals as goal

pub returns-in-None : goal.returns-in-None
returns-in-None c =
    let models = c.args.standing.now.active.tree.models in
    let marks = c.args.standing.now.list.marks in
    let model = c.args.model.now in
    sym (ap (list_any (λ (m : Spec). not (m.id == model.id) && is_unfinished marks m.id))
    (no-members models marks model.group (ap (group_row_of models marks) (sym c.group.ensures) ∙ sym c.group_row.ensures ∙ c.in-None.is)))

pub state-requires : goal.state-requires
state-requires c =
    let tree = c.args.standing.now.active.tree in
    ap (has_model tree) c.id.ensures.value ∙ among-has c.args.model.now tree.models c.requires.there

pub returns-in-Some : goal.returns-in-Some
returns-in-Some c =
    let models = c.args.standing.now.active.tree.models in
    let marks = c.args.standing.now.list.marks in
    let model = c.args.model.now in
    let runs : c.is_unfinished.result ≡ is_unfinished marks model.id = c.is_unfinished.ensures ∙ c.state.ensures.runs ∙ ap (is_unfinished marks) c.id.ensures.value in
    c.more_run.ensures
    ∙ ap (λ (b : Bool). nat_lt (one_if b) c.in-Some.row.unfinished) runs
    ∙ others-run models marks model c.in-Some.row c.vouch.ensures.differ c.requires.there
    (ap (group_row_of models marks) (sym c.group.ensures) ∙ sym c.group_row.ensures ∙ c.in-Some.is)

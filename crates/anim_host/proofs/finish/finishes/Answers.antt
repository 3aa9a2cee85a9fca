use Rattle.std.proofs.Common.{◌≡◌, ℕ, List, true, filter, ap, sym, ◌∙◌}
use Rattle.std.specs.Prelude.{slice_get, ◌&&◌}
use Rattle.std.specs.List.{list_all}
use Rattle.keyframe_model.specs.Models.{Spec}
use Rattle.run_rules.specs.Marks.{are_over, is_over, is_unfinished, start_of}
use Rattle.host_tables.specs.CommitGroups.{at_indices, indices_in}
use Rattle.host_tables.proofs.CommitGroupsLemmas.{group-members, group-within}
use Rattle.anim_host.proofs.finish.finishes.Goals as goal

pub are_over-requires-clause-indices : goal.are_over-requires-clause-indices
are_over-requires-clause-indices c = λ j index found.
    let models = c.args.active.now.tree.models in
    group-within models c.group.result j index
    (ap (λ (s : List (ℕ × List ℕ)). slice_get (indices_in s c.group.result) j) (sym c.requires.groups)
    ∙ ap (λ (ps : List ℕ). slice_get ps j) (sym c.indices.ensures)
    ∙ found)

pub returns-then-is_unfinished-clause-finishes : goal.returns-then-is_unfinished-clause-finishes
returns-then-is_unfinished-clause-finishes c =
    let marks = c.args.standing.now.list.marks in
    let models = c.args.active.now.tree.models in
    let group = c.args.model.now.group in
    let passes = λ (m : Spec). is_over c.args.active.now.tree c.args.tick m (start_of marks m.id) in
    let runs = λ (m : Spec). is_unfinished marks m.id in
    let it_runs : is_unfinished marks c.args.model.now.id ≡ true = ap (is_unfinished marks) (sym c.id.ensures.value) ∙ sym c.state.ensures.runs ∙ sym c.is_unfinished.ensures ∙ c.if-is_unfinished.true in
    c.are_over.ensures.over
    ∙ ap (λ (ps : List ℕ). list_all passes (filter runs (at_indices models ps))) (c.indices.ensures ∙ ap (λ (s : List (ℕ × List ℕ)). indices_in s c.group.result) c.requires.groups)
    ∙ ap (λ (ms : List Spec). list_all passes (filter runs ms)) (group-members models c.group.result)
    ∙ ap (λ (g : ℕ). are_over c.args.active.now.tree marks c.args.tick g) c.group.ensures
    ∙ sym (ap (λ b. b && are_over c.args.active.now.tree marks c.args.tick group) it_runs)

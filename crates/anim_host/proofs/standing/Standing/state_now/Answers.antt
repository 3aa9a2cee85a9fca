use Rattle.std.proofs.Common.{ap, sym, ◌∙◌}
use Rattle.std.specs.Prelude.{option_map}
use Rattle.host_tables.specs.Rows.{marked_row, says_over}
use Rattle.host_tables.specs.States.{models_of}
use Rattle.anim_host.proofs.StandLemmas.{row-none, row-state}
use Rattle.anim_host.proofs.standing.Standing.state_now.Goals as goal

pub returns-in-Some-clause-state : goal.returns-in-Some-clause-state
returns-in-Some-clause-state c =
    rw (← c.self.view_is)
    (row-state c.self.inside.active.value.tree.models (models_of (option_map (λ commit. commit.value) c.self.inside.pending)) c.self.inside.marks.marks c.args.id
    (marked_row c.in-Some.row)
    (ap (option_map marked_row) (sym c.in-Some.is ∙ c.row.ensures.row) ∙ c.self.invariant.of_rows c.args.id))

pub returns-in-None-clause-state : goal.returns-in-None-clause-state
returns-in-None-clause-state c =
    let gone =
    row-none c.self.inside.active.value.tree.models (models_of (option_map (λ commit. commit.value) c.self.inside.pending)) c.self.inside.marks.marks c.args.id
    (ap (option_map marked_row) (sym c.in-None.is ∙ c.row.ensures.row) ∙ c.self.invariant.of_rows c.args.id) in
    let there = rw (← c.self.view_is) at c.requires in
    absurd cc

pub returns-in-Some-clause-finishes : goal.returns-in-Some-clause-finishes
returns-in-Some-clause-finishes c = rw (← c.self.view_is) c.self.invariant.finishes

pub returns-in-None-clause-finishes : goal.returns-in-None-clause-finishes
returns-in-None-clause-finishes c = rw (← c.self.view_is) c.self.invariant.finishes

pub returns-in-Some-clause-over : goal.returns-in-Some-clause-over
returns-in-Some-clause-over c =
    rw (← c.self.view_is) (λ found. c.self.invariant.over c.args.id (ap says_over (sym c.row.ensures.row ∙ c.in-Some.is) ∙ found))

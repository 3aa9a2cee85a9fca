use Rattle.std.proofs.Common.{◌≡◌, None, true, false, ap, sym, ◌∙◌}
use Rattle.std.specs.Prelude.{option_map, if◌then◌else◌}
use Rattle.run_rules.specs.Frames.{shown_by}
use Rattle.host_tables.specs.Rows.{marked_row}
use Rattle.host_tables.specs.States.{is_among, models_of, shown_at}
use Rattle.host_tables.proofs.MarkedLemmas.{marked-shown}
use Rattle.anim_host.proofs.StandLemmas.{row-active, row-none, row-state}
use Rattle.host_tables.proofs.StateLemmas.{state-shown}
use Rattle.anim_host.proofs.standing.Standing.shown.Goals as goal

pub returns-in-Some : goal.returns-in-Some
returns-in-Some c =
    let active = c.self.inside.active.value.tree.models in
    let pending = models_of (option_map (λ commit. commit.value) c.self.inside.pending) in
    let marks = c.self.inside.marks.marks in
    let row = ap (option_map marked_row) (sym c.in-Some.is ∙ c.row.ensures.row) ∙ c.self.invariant.of_rows c.args.id in
    let there : is_among active c.args.id ≡ true = sym (row-active active pending marks c.args.id (marked_row c.in-Some.row) row) ∙ c.if-row.true in
    rw (← c.self.view_is)
    (c.shown.ensures
    ∙ marked-shown c.in-Some.row.state
    ∙ ap shown_at (row-state active pending marks c.args.id (marked_row c.in-Some.row) row)
    ∙ state-shown marks c.args.id
    ∙ sym (ap (λ b. if b then shown_by marks c.args.id else None) there))

pub returns-in_default : goal.returns-in_default
returns-in_default c =
    let active = c.self.inside.active.value.tree.models in
    let pending = models_of (option_map (λ commit. commit.value) c.self.inside.pending) in
    let marks = c.self.inside.marks.marks in
    let row = ap (option_map marked_row) (sym c.in-Some.is ∙ c.row.ensures.row) ∙ c.self.invariant.of_rows c.args.id in
    let there : is_among active c.args.id ≡ false = sym (row-active active pending marks c.args.id (marked_row c.in-Some.row) row) ∙ c.if-row.false in
    rw (← c.self.view_is) (sym (ap (λ b. if b then shown_by marks c.args.id else None) there))

pub returns-in_default-2 : goal.returns-in_default-2
returns-in_default-2 c =
    let active = c.self.inside.active.value.tree.models in
    let pending = models_of (option_map (λ commit. commit.value) c.self.inside.pending) in
    let marks = c.self.inside.marks.marks in
    let there = row-none active pending marks c.args.id (ap (option_map marked_row) (sym c.in_default.is ∙ c.row.ensures.row) ∙ c.self.invariant.of_rows c.args.id) in
    rw (← c.self.view_is) (sym (ap (λ b. if b then shown_by marks c.args.id else None) there))

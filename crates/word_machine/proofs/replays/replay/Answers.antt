use Rattle.std.proofs.Common.{List, ap, sym, subst, ◌∙◌}
use Rattle.anim_names.specs.declared.lane.Lane.{Lane}
use Rattle.word_machine.specs.Laws.{KeepsLaws}
use Rattle.word_machine.proofs.Keeping.{keeps_laws}
use Rattle.word_machine.proofs.Moments.{leaves-heard, may_close, report-made}
use Rattle.word_machine.proofs.replays.replay.Goals as goal

pub close-requires-clause-complete : goal.close-requires-clause-complete
close-requires-clause-complete g c = (may_close _ c.main-kept.ensures.kept _ _ _ _ _ _ c.in_ok-make_steps.ensures).complete

pub close-requires-clause-batch_room : goal.close-requires-clause-batch_room
close-requires-clause-batch_room g c = (may_close _ c.main-kept.ensures.kept _ _ _ _ _ _ c.in_ok-make_steps.ensures).batch_room

pub close-requires-clause-few : goal.close-requires-clause-few
close-requires-clause-few g c = (may_close _ c.main-kept.ensures.kept _ _ _ _ _ _ c.in_ok-make_steps.ensures).few

pub returns-clause-report : goal.returns-clause-report
returns-clause-report g c =
    report-made _ _ _ _ _ _ _ c.in_ok-make_steps.ensures _ _ _ _ c.new.ensures (c.in_ok-word.ensures.items ∙ c.word.ensures)
    (c.in_ok-events.ensures.items ∙ c.events.ensures.value) c.in_ok-close.ensures.counts

pub returns-clause-laws : goal.returns-clause-laws
returns-clause-laws g c =
    let word = ap (λ report. report.word) c.new.ensures ∙ c.in_ok-word.ensures.items ∙ c.word.ensures in
    subst (λ (w : List Lane). KeepsLaws c.args.script.now w) (sym word) (keeps_laws _ c.main-kept.ensures.kept _)

pub returns-clause-left : goal.returns-clause-left
returns-clause-left g c = leaves-heard _ _ _ _ _ _ _ c.in_ok-make_steps.ensures _ c.close.ensures.main

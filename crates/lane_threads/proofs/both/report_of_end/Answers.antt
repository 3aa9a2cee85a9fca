use Rattle.std.proofs.Common.{length, sym, ap, ◌∙◌}
use Rattle.std.proofs.lemmas.List.{length-map}
use Rattle.run_rules.specs.Views.{step_of}
use Rattle.word_machine.proofs.Moments.{may_close}
use Rattle.lane_threads.proofs.Ends.{reports-word}
use Rattle.lane_threads.proofs.both.report_of_end.Goals as goal

pub close-requires-clause-batch_room : goal.close-requires-clause-batch_room
close-requires-clause-batch_room g c = (may_close _ c.main.ensures.kept _ _ _ _ _ _ c.requires.at).batch_room

pub close-requires-clause-few : goal.close-requires-clause-few
close-requires-clause-few g c = (may_close _ c.main.ensures.kept _ _ _ _ _ _ c.requires.at).few

pub returns-clause-report : goal.returns-clause-report
returns-clause-report g c =
    (reports-word _ c.main.ensures.kept _ _ _ _ c.requires _ _ _ _ _ _
    (sym (length-map c.main.result.now step_of) ∙ ap length c.main.ensures.steps) (ap length c.compositor.ensures)
    c.new.ensures c.in_ok-word.ensures (c.in_ok-events.ensures.items ∙ c.events.ensures.value) c.in_ok-close.ensures.counts).report_is

pub returns-clause-laws : goal.returns-clause-laws
returns-clause-laws g c =
    (reports-word _ c.main.ensures.kept _ _ _ _ c.requires _ _ _ _ _ _
    (sym (length-map c.main.result.now step_of) ∙ ap length c.main.ensures.steps) (ap length c.compositor.ensures)
    c.new.ensures c.in_ok-word.ensures (c.in_ok-events.ensures.items ∙ c.events.ensures.value) c.in_ok-close.ensures.counts).laws

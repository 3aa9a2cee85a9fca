use Rattle.std.proofs.Common.{arith, ◌∙◌}
use Rattle.side_main.proofs.HearLoop.{book-same, count-last, count-next, tree-next}
use Rattle.side_main.proofs.hearing.hear_all.Goals as goal

pub loop-event-preserved : goal.loop-event-preserved
loop-event-preserved g c =
    let before = c.loop-event.tree in
    let now = c.hear_one-retired.new.tree in
    let events = c.args.events.now in
    let i = c.loop-event.event-index in
    let event = c.event-item.result in
    let within = c.loop-event-test.true in
    let heard = c.hear_one-retired.ensures.heard in
    let is = c.event-item.is in (
      book-same before now events i event within is heard ∙ c.loop-event.invariant.0,
      tree-next before now events i event within is heard ∙ c.loop-event.invariant.1,
      count-next before now events i event within is heard c.loop-event.retired c.hear_one-retired.result c.hear_one-retired.ensures.retired
          ∙ c.loop-event.invariant.2,
      omega arith,
    )

pub returns-clause-retired : goal.returns-clause-retired
returns-clause-retired g c =
    count-last c.loop-event.tree.tree c.args.events.now c.loop-event.event-index c.loop-event.retired _ c.loop-event-test.false c.loop-event.invariant.2

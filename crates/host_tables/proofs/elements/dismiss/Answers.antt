use Rattle.std.proofs.Common.{false}
use Rattle.tree_commit.specs.Views.{look_of}
use Rattle.host_tables.proofs.ElementLemmas.{set-next}
use Rattle.host_tables.proofs.elements.dismiss.Goals as goal

pub loop-index-preserved : goal.loop-index-preserved
loop-index-preserved c =
    set-next c.args.tree c.args.commit.now.tree.elements c.loop-index.index (record { id = c.element_at-element.result.0; look = look_of c.element_at-element.result.1.now }) false
    c.args.table.now c.loop-index.table c.set_present.new.self c.element_at-element.ensures c.set_present.ensures.set c.loop-index.invariant

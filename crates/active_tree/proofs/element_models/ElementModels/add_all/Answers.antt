use Rattle.active_tree.proofs.ListLemmas.{lists-more}
use Rattle.active_tree.proofs.element_models.ElementModels.add_all.Goals as goal

pub loop-i-preserved : goal.loop-i-preserved
loop-i-preserved c =
    lists-more c.args.commit.now.tree.models c.loop-i.i c.model_at.result.now.value c.loop-i.self c.add.new.self
    c.model_at.ensures c.in_ok-add.ensures c.loop-i.invariant

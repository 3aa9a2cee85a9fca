use Rattle.std.proofs.Common.{◌≡◌, map, Some, ap, subst, ◌∙◌}
use Rattle.std.specs.Prelude.{slice_get}
use Rattle.std.proofs.lemmas.List.{map-append}
use Rattle.run_rules.specs.Frames.{row_of}
use Rattle.tree_commit.specs.Trees.{Committed}
use Rattle.element_samples.specs.Views.{drawn_row_of}
use Rattle.active_tree.proofs.RowLemmas.{take-next}
use Rattle.active_tree.proofs.active.sample_all.Goals as goal

pub loop-index-preserved : goal.loop-index-preserved
loop-index-preserved g c =
    let shown = g.S.StartTable.starts c.args.starts.now in
    let so_far = c.loop-index.invariant in (
      c.sample_row.ensures.same ∙ so_far.0,
      ap (map drawn_row_of) c.in_ok-push.ensures.items
          ∙ map-append _ _ _
          ∙ take-next _ _ _ _ so_far.1
          (subst (λ (t : Committed). slice_get (map (row_of t.tree shown c.args.time) t.tree.elements) c.loop-index.index ≡ Some (drawn_row_of c.in_ok-sample_row.field-0)) so_far.0 c.in_ok-sample_row.ensures.row),
    )

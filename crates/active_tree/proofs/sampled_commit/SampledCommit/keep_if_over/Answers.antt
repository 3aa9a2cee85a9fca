use Rattle.std.proofs.Common.{nat_eq, map, sym, ap, subst, ◌∙◌, to_z-of_z}
use Rattle.std.specs.Prelude.{option_map}
use Rattle.std.specs.List.{IsDistinct}
use Rattle.micro_time.specs.Timings.{is_done}
use Rattle.tree_commit.specs.Trees.{Committed}
use Rattle.keyframe_model.specs.Views.{shared_value_of}
use Rattle.active_tree.proofs.KeptLemmas.{kept-of-over}
use Rattle.active_tree.proofs.sampled_commit.SampledCommit.keep_if_over.Goals as goal

pub keep-requires : goal.keep-requires
keep-requires c =
    let differ = subst (λ (t : Committed). IsDistinct nat_eq (map (λ m. m.id) t.tree.models)) (c.deref.ensures ∙ c.self.view_is) c.model_count.ensures.differ in
    let over = ap (is_done c.args.model.now.timing) (sym (to_z-of_z c.ranges.local)) ∙ sym c.if-is_done.ensures in
    kept-of-over c.args.self.now.tree c.args.model.now c.id.result c.args.shown c.args.local c.args.time (option_map shared_value_of c.args.sample.now)
    differ c.requires.there c.id.ensures.value c.requires.local over c.requires.value

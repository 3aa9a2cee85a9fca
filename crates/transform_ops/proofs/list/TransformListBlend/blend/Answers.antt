use Rattle.std.proofs.Common.{◌≡◌, ◌∙◌}
use Rattle.std.proofs.lemmas.Int.{to_z-of_z}
use Rattle.transform_ops.proofs.Matching.{match_len-drop, whole}
use Rattle.transform_ops.proofs.Ranges.{All-drop, IsList-blend_lists}
use Rattle.transform_ops.specs.Lists.{blend_lists}
use Rattle.transform_ops.proofs.list.TransformListBlend.blend.Goals as goal

pub push_rest-requires-clause-none_match : goal.push_rest-requires-clause-none_match
push_rest-requires-clause-none_match c =
    let from = c.deref.ensures.value ∙ c.from.view_is in
    let to = c.deref-2.ensures.value ∙ c.to.view_is in
    rw (c.split_at.ensures.back, c.split_at-2.ensures.back, from, to)
    (match_len-drop c.match_len-matching.result c.args.from.now c.args.to.now c.match_len-matching.ensures.value)

pub push_rest-requires-clause-from_within : goal.push_rest-requires-clause-from_within
push_rest-requires-clause-from_within c =
    let from = c.deref.ensures.value ∙ c.from.view_is in
    rw (c.split_at.ensures.back, from) (All-drop c.match_len-matching.result c.args.from.now c.len.ensures.taken.within)

pub push_rest-requires-clause-to_within : goal.push_rest-requires-clause-to_within
push_rest-requires-clause-to_within c =
    let to = c.deref-2.ensures.value ∙ c.to.view_is in
    rw (c.split_at-2.ensures.back, to) (All-drop c.match_len-matching.result c.args.to.now c.len-2.ensures.taken.within)

blended : (c : goal.In_ok-push_rest) → c.push_rest.new.ops.items ≡ blend_lists c.args.from.now c.args.to.now c.args.progress
blended c =
    let fits = c.ranges.progress in
    let from = c.deref.ensures.value ∙ c.from.view_is in
    let to = c.deref-2.ensures.value ∙ c.to.view_is in
    whole c.match_len-matching.result c.args.from.now c.args.to.now _ _ _ _ _ _ _ c.args.progress c.match_len-matching.ensures.value
    (rw from at c.split_at.ensures.front)
    (rw from at c.split_at.ensures.back)
    (rw to at c.split_at-2.ensures.front)
    (rw to at c.split_at-2.ensures.back)
    c.in_ok-ops.ensures.items
    (simp to_z-of_z at c.in_ok-push_pairs.ensures)
    (simp to_z-of_z at c.in_ok-push_rest.ensures)

pub invariant_of-result : goal.invariant_of-result
invariant_of-result c =
    rw (blended c) (IsList-blend_lists c.args.from.now c.args.to.now c.args.progress c.len.ensures.taken c.len-2.ensures.taken)

pub returns-clause-value : goal.returns-clause-value
returns-clause-value c = blended c

use Rattle.std.proofs.Common.{arith, ◌∙◌}
use Rattle.transform_ops.proofs.Matching.{match_count, match_len-within}
use Rattle.transform_ops.proofs.list.TransformList.match_len.Goals as goal

pub returns : goal.returns
returns c =
    let from = c.deref.ensures.value ∙ c.self.view_is in
    let to = c.deref-2.ensures.value ∙ c.other.view_is in
    let places = rw (from, to) at (c.count_matching.ensures ∙ match_count c.deref.result.now c.deref-2.result.now) in
    let within = match_len-within c.args.self.now c.args.other.now in
    record {
      value = places;
      within = omega arith;
      within_other = omega arith;
    }
